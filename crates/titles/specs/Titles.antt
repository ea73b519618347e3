-- SCOPE 2.4, 3.1, 4.4 and 6.2: all events of an EIT with the text of their titles, in two lent lists of numbers: 1 to 9, then 12.
use Rattle.std.specs.Prelude.{ℕ, zero, suc, ◌+◌, ◌*◌, List, [], ◌∷◌, ◌++◌, length, leb}
use Rattle.std.proofs.lemmas.List.Edits.{sets}
use Rattle.refusal.specs.Outcomes.{Outcome, refused, resulted, after, or_refuse}
use Rattle.refusal.specs.Outputs.{no_value}
use Rattle.kind.specs.declared.Kind.TheVariants.{Eit}
use Rattle.kind.specs.Kinds.{limits_of, only_of}
use Rattle.part.specs.Parts.{bytes_in}
use Rattle.text.specs.Strings.{string_units, string_replaced}
use Rattle.eit.specs.declared.event.Title.{Title}
use Rattle.eit.specs.declared.event.Title.TheVariants.{None, NoStrings, Text}
use Rattle.eit.specs.Fields.{count_at, first_at, title_at, event_row, event_end}
use Rattle.section.specs.Sections.{section_by}
-- how many events and units there are
pub use Rattle.titles.specs.declared.Counts.{Counts}

-- ---- a title
-- what is told of it: that there is none; that it has no strings; the number that refuses the text of its first string; or the units of
-- that text, and how many of its segments were replaced
pub data TitleTold : Type 0 where
  no_title : TitleTold
  no_strings : TitleTold
  refused_title : ℕ → TitleTold
  text : List ℕ → ℕ → TitleTold

-- a text by its outcome, and how many of its segments were replaced
unfoldable pub text_told : ℕ → Outcome (List ℕ) → TitleTold
text_told replaced (refused k) = refused_title k
text_told replaced (resulted us) = text us replaced

unfoldable pub told_of : List ℕ → Title → TitleTold
told_of s None = no_title
told_of s NoStrings = no_strings
told_of s (Text p) =
    text_told (string_replaced (bytes_in s p) (length (bytes_in s p)) 0 0) (string_units (bytes_in s p) (length (bytes_in s p)) 0 0)

-- the title of the event that begins at a
unfoldable pub title_told : List ℕ → ℕ → TitleTold
title_told s a = told_of s (title_at s a)

-- the units that it adds
unfoldable pub units_told : TitleTold → List ℕ
units_told no_title = []
units_told no_strings = []
units_told (refused_title k) = []
units_told (text us replaced) = us

-- four numbers: its sort (1 no title, 2 no strings, 3 text, and else the number that refuses it, 10 or 11); where its units begin, how many
-- they are, how many of its segments were replaced. Where the title has no text the last three are `no_value`, which is not 0
unfoldable pub blank_row : ℕ → List ℕ
blank_row sort = sort ∷ no_value ∷ no_value ∷ no_value ∷ []

unfoldable pub title_row : ℕ → TitleTold → List ℕ
title_row n no_title = blank_row 1
title_row n no_strings = blank_row 2
title_row n (refused_title k) = blank_row k
title_row n (text us replaced) = 3 ∷ n ∷ length us ∷ replaced ∷ []

-- ---- the titles of k events, the first of which begins at a
-- their units, one after the other
unfoldable pub units_from : List ℕ → ℕ → ℕ → List ℕ
units_from s zero a = []
units_from s (suc k) a = units_told (title_told s a) ++ units_from s k (event_end s a)

-- their rows, where the units of the first begin at n: the eight numbers of the event, and the four of its title
unfoldable pub title_rows_from : List ℕ → ℕ → ℕ → ℕ → List ℕ
title_rows_from s n zero a = []
title_rows_from s n (suc k) a =
    (event_row s a ++ title_row n (title_told s a)) ++ title_rows_from s (n + length (units_told (title_told s a))) k (event_end s a)

-- ---- a section
-- how many events it has, and where the first begins
abbrev pub event_count : List ℕ → ℕ
event_count s = count_at s (limits_of Eit).body

abbrev pub first_event : ℕ
first_event = first_at (limits_of Eit).body

-- 12 where one of the two lists has no room: exactly enough is enough
unfoldable pub room_for_titles : Counts → ℕ → ℕ → Outcome Counts
room_for_titles c rows units = or_refuse 12 (leb (12 * c.events) rows) (or_refuse 12 (leb c.units units) (resulted c))

-- of a section that was judged, in lists of these lengths
unfoldable pub titles_in : List ℕ → ℕ → ℕ → Outcome Counts
titles_in s rows units =
    room_for_titles (record { events = event_count s; units = length (units_from s (event_count s) first_event) }) rows units

unfoldable pub titles_of : List ℕ → ℕ → ℕ → Outcome Counts
titles_of s rows units = after (section_by (only_of Eit) s) (λ h. titles_in s rows units)

-- the two lists afterwards: what was asked for is stored from the beginning on, and nothing else changes
unfoldable pub with_title_rows : List ℕ → Outcome Counts → List ℕ → List ℕ
with_title_rows s (refused k) l = l
with_title_rows s (resulted c) l = sets l 0 (title_rows_from s 0 c.events first_event)

unfoldable pub with_units : List ℕ → Outcome Counts → List ℕ → List ℕ
with_units s (refused k) l = l
with_units s (resulted c) l = sets l 0 (units_from s c.events first_event)
