-- SCOPE 2.4, 3.1 and 4.4: what is told of an EIT's record to the question for all its events and titles at once.
use Rattle.std.specs.Prelude.{ℕ, ◌+◌, List, [], ◌∷◌, ◌++◌, length}
use Rattle.refusal.specs.Outcomes.{Outcome}
use Rattle.kind.specs.declared.Kind.TheVariants.{Eit}
use Rattle.format.specs.Listed.{all_of}
use Rattle.strings.specs.Strings.{text, strings_of}
use Rattle.text.specs.Values.{units_of}
use Rattle.text.specs.Replaced.{replaced_of}
use Rattle.eit.specs.declared.event.Title.{Title}
use Rattle.eit.specs.declared.event.Title.TheVariants.{None, NoStrings, Text}
use Rattle.eit.specs.Format.{EventFields, event_format}
use Rattle.eit.specs.Values.{event_for, row_for}
use Rattle.section.specs.Encoding.{Section}
use Rattle.entry.specs.declared.Entry.TheVariants.{Event}
use Rattle.entry.specs.Records.{entries_of, begin_of}
use Rattle.titles.specs.Titles.{TitleTold, no_title, no_strings, text_told, units_told, title_row, room_for_titles}
use Rattle.titles.specs.declared.Counts.{Counts}

-- ---- a title: by its sort, and the strings of its text
unfoldable pub sort_told : Title → text.Val → TitleTold
sort_told None t = no_title
sort_told NoStrings t = no_strings
sort_told (Text p) t = text_told (replaced_of (strings_of t) 0) (units_of (strings_of t) 0)

-- of an event that stands at a
abbrev pub title_record : ℕ → EventFields → TitleTold
title_record a e = sort_told (event_for a e).title e.title

-- ---- all titles
-- their units, one after the other
abbrev pub title_units : Section Eit → List ℕ
title_units y = all_of event_format.enc (λ a e. units_told (title_record a e)) (begin_of Event y) (entries_of Event y)

-- the rows of events, the first of which stands at a, where the units of its title begin at n
unfoldable pub title_rows_told : ℕ → ℕ → List EventFields → List ℕ
title_rows_told n a [] = []
title_rows_told n a (e ∷ es) =
    (row_for a e ++ title_row n (title_record a e)) ++ title_rows_told (n + length (units_told (title_record a e))) (a + length (event_format.enc e)) es

abbrev pub title_rows : Section Eit → List ℕ
title_rows y = title_rows_told 0 (begin_of Event y) (entries_of Event y)

-- how many events and units there are, or 12 where one of the lists has no room
abbrev pub titles_told : ℕ → ℕ → Section Eit → Outcome Counts
titles_told rows units y = room_for_titles (record { events = length (entries_of Event y); units = length (title_units y) }) rows units
