-- SCOPE 2.3 to 2.7 and 4.2: the texts that a section has, and where each stands: 1 to 9, then 13 where its entry is not there.
use Rattle.std.specs.Prelude.{ℕ, ◌-◌, List, length}
use Rattle.refusal.specs.Outcomes.{Outcome, resulted, after, or_none}
use Rattle.kind.specs.declared.Kind.{Kind}
use Rattle.kind.specs.declared.Kind.TheVariants.{Rrt, Eit, Ett}
use Rattle.kind.specs.Kinds.{limits_of, only_of}
use Rattle.part.specs.declared.Part.{Part}
use Rattle.rrt.specs.Fields as rrts
use Rattle.eit.specs.declared.event.Title as titles
use Rattle.eit.specs.declared.event.Title.TheVariants as sorts
use Rattle.eit.specs.Fields.{title_at}
use Rattle.eit.specs.Questions.{advisory_text_at}
use Rattle.ett.specs.Fields as etts
use Rattle.section.specs.Sections.{section_by}
use Rattle.entry.specs.declared.Entry.TheVariants.{Event, Dimension}
use Rattle.entry.specs.Entries.{spot_in, value_spot}
use Rattle.strings.specs.Places.{text_at}
use Rattle.section_text.specs.declared.field.Which.{Which}
use Rattle.section_text.specs.declared.field.Which.TheVariants.{Title, Advisory, Extended, RegionName, DimensionName, ShortText, LongText}

-- the kind of section that has the text
abbrev pub kind_for : Which → Kind
kind_for (Title i) = Eit
kind_for (Advisory i region) = Eit
kind_for Extended = Ett
kind_for RegionName = Rrt
kind_for (DimensionName i) = Rrt
kind_for (ShortText i j) = Rrt
kind_for (LongText i j) = Rrt

-- ---- where the texts of a section that was judged stand
-- the field of a title, of which only strings are asked: none and no strings have no string, so an empty field stands for both, and every question is
-- answered by 13
abbrev pub title_field : titles.Title → Part
title_field sorts.None = record { start = 0; length = 0 }
title_field sorts.NoStrings = record { start = 0; length = 0 }
title_field (sorts.Text p) = p

unfoldable pub title_in : List ℕ → ℕ → Outcome Part
title_in s i = after (spot_in Event s i) (λ a. resulted (title_field (title_at s a)))

unfoldable pub advisory_text_in : List ℕ → ℕ → ℕ → Outcome Part
advisory_text_in s i region = after (spot_in Event s i) (λ a. or_none (advisory_text_at s a region))

abbrev pub extended_text_in : List ℕ → Part
extended_text_in s = (etts.fields_at s 0 (limits_of Ett).body (length s - 4)).text

abbrev pub region_name_in : List ℕ → Part
region_name_in s = text_at s (limits_of Rrt).body

unfoldable pub dimension_name_in : List ℕ → ℕ → Outcome Part
dimension_name_in s i = after (spot_in Dimension s i) (λ d. resulted (rrts.dimension_at s d).name)

-- where value j of dimension i begins
unfoldable pub value_in : List ℕ → ℕ → ℕ → Outcome ℕ
value_in s i j = after (spot_in Dimension s i) (λ d. value_spot s d j)

unfoldable pub short_text_in : List ℕ → ℕ → ℕ → Outcome Part
short_text_in s i j = after (value_in s i j) (λ a. resulted (rrts.texts_at s a).short_text)

unfoldable pub long_text_in : List ℕ → ℕ → ℕ → Outcome Part
long_text_in s i j = after (value_in s i j) (λ a. resulted (rrts.texts_at s a).long_text)

abbrev pub field_in : List ℕ → Which → Outcome Part
field_in s (Title i) = title_in s i
field_in s (Advisory i region) = advisory_text_in s i region
field_in s Extended = resulted (extended_text_in s)
field_in s RegionName = resulted (region_name_in s)
field_in s (DimensionName i) = dimension_name_in s i
field_in s (ShortText i j) = short_text_in s i j
field_in s (LongText i j) = long_text_in s i j

-- ---- where the text asked for stands
unfoldable pub field_of : List ℕ → Which → Outcome Part
field_of s w = after (section_by (only_of (kind_for w)) s) (λ h. field_in s w)
