-- The numbers of the tables and of their entries, in the order of guide.h; a part is where it begins and how many bytes it has. SCOPE 2, 3.1 and 6.
use Rattle.std.specs.Prelude.{ℕ, List, [], ◌∷◌, ◌++◌}
use Rattle.part.specs.declared.Part.{Part}
use Rattle.row.specs.Rows.{part_row}
use Rattle.mgt.specs.declared.table.Table.{Table as Mgt}
use Rattle.mgt.specs.declared.defined.Defined.{Defined}
use Rattle.tvct.specs.declared.table.Table.{Table as Tvct}
use Rattle.channel.specs.declared.channel.Channel.{Channel}
use Rattle.channel.specs.Fields.{numbers_row}
use Rattle.rrt.specs.declared.table.Table.{Table as Rrt}
use Rattle.rrt.specs.declared.dimension.Dimension.{Dimension}
use Rattle.rrt.specs.declared.dimension.ValueTexts.{ValueTexts}
use Rattle.eit.specs.declared.table.Table.{Table as Eit}
use Rattle.eit.specs.declared.event.Title.{Title}
use Rattle.eit.specs.declared.event.Title.TheVariants.{None, NoStrings, Text}
use Rattle.eit.specs.declared.event.Event.{Event}
use Rattle.ett.specs.declared.table.Table.{Table as Ett}
use Rattle.refusal.specs.Outputs.{no_value}

-- ---- the MGT
unfoldable pub mgt_numbers : Mgt → List ℕ
mgt_numbers t = t.tables_defined ∷ part_row t.descriptors

unfoldable pub defined_numbers : Defined → List ℕ
defined_numbers d = d.table_type ∷ d.pid ∷ d.version ∷ d.number_bytes ∷ part_row d.descriptors

-- ---- the TVCT
unfoldable pub tvct_numbers : Tvct → List ℕ
tvct_numbers t = t.tsid ∷ t.count ∷ part_row t.descriptors

unfoldable pub channel_numbers : Channel → List ℕ
channel_numbers c = numbers_row c ++ part_row c.descriptors

-- ---- the RRT
unfoldable pub rrt_numbers : Rrt → List ℕ
rrt_numbers t = t.extension ∷ t.region ∷ (part_row t.name ++ (t.dimensions ∷ part_row t.descriptors))

unfoldable pub dimension_numbers : Dimension → List ℕ
dimension_numbers d = part_row d.name ++ (d.graduated_scale ∷ d.values ∷ [])

unfoldable pub value_numbers : ValueTexts → List ℕ
value_numbers v = part_row v.short_text ++ part_row v.long_text

-- ---- the EIT
unfoldable pub eit_numbers : Eit → List ℕ
eit_numbers t = t.source ∷ t.count ∷ []

-- the sort of a title
abbrev pub title_sort : Title → ℕ
title_sort None = 1
title_sort NoStrings = 2
title_sort (Text p) = 3

-- where its text stands; one that is no text stands nowhere
abbrev pub title_place_told : Title → Part
title_place_told None = record { start = no_value; length = no_value }
title_place_told NoStrings = record { start = no_value; length = no_value }
title_place_told (Text p) = p

unfoldable pub event_numbers : Event → List ℕ
event_numbers e =
    e.event_id ∷ e.start_time ∷ e.etm_location ∷ e.length_in_seconds ∷ title_sort e.title
    ∷ (part_row (title_place_told e.title) ++ part_row e.descriptors)

-- ---- the ETT
unfoldable pub ett_numbers : Ett → List ℕ
ett_numbers t = t.extension ∷ t.etm_id ∷ part_row t.text
