-- SCOPE 8.2: the lines of a section.
use Rattle.std.specs.Prelude.{ℕ, zero, suc, List, [], ◌++◌, leb}
use Rattle.refusal.specs.Outcomes.{Outcome, refused, resulted, or_refuse}
use Rattle.kind.specs.declared.Kind.{Kind}
use Rattle.kind.specs.declared.Kind.TheVariants.{Mgt, Tvct, Rrt, Eit, Ett}
use Rattle.kind.specs.Kinds.{limits_of, kind_of}
use Rattle.eit.specs.declared.event.Event.{Event}
use Rattle.eit.specs.Fields.{count_at, first_at, event_at, event_end}
use Rattle.section.specs.declared.header.Header.{Header}
use Rattle.section.specs.Sections.{section_by}
use Rattle.shown.specs.Ascii.{ascii, decimal, field}
use Rattle.shown.specs.Titles.{title_shown}

-- the word of a kind, with a space on either side
unfoldable pub kind_word : Kind → List ℕ
kind_word Mgt = ascii " mgt "
kind_word Tvct = ascii " tvct "
kind_word Rrt = ascii " rrt "
kind_word Eit = ascii " eit "
kind_word Ett = ascii " ett "

-- PID, kind and extension
unfoldable pub key_shown : ℕ → Header → List ℕ
key_shown pid h = field (ascii " pid ") pid ++ (kind_word h.kind ++ decimal h.extension)

-- version, number and last
unfoldable pub edition_shown : Header → List ℕ
edition_shown h = field (ascii " v") h.version ++ (field (ascii " ") h.number ++ field (ascii "/") h.last)

-- ---- events
-- event_id, start_time and length_in_seconds
unfoldable pub times_shown : Event → List ℕ
times_shown e =
    field (ascii "event ") e.event_id ++ (field (ascii " start ") e.start_time ++ field (ascii " length ") e.length_in_seconds)

-- the line of the event that begins at a
unfoldable pub event_line : List ℕ → ℕ → List ℕ
event_line s a = times_shown (event_at s a) ++ (ascii " title " ++ (title_shown s (event_at s a).title ++ ascii "\n"))

-- the lines of n events, the first of which begins at a
unfoldable pub event_lines : List ℕ → ℕ → ℕ → List ℕ
event_lines s zero a = []
event_lines s (suc n) a = event_line s a ++ event_lines s n (event_end s a)

-- the count of events, and their lines, where the body begins at `at`
unfoldable pub events_shown : List ℕ → ℕ → List ℕ
events_shown s at = field (ascii " events ") (count_at s at) ++ (ascii "\n" ++ event_lines s (count_at s at) (first_at at))

-- ---- a section
-- what follows the section's own fields: of an EIT its events
unfoldable pub rest_shown : List ℕ → Kind → List ℕ
rest_shown s Mgt = ascii "\n"
rest_shown s Tvct = ascii "\n"
rest_shown s Rrt = ascii "\n"
rest_shown s Eit = events_shown s (limits_of Eit).body
rest_shown s Ett = ascii "\n"

-- the number of the refusal, or the section
unfoldable pub refusal_shown : ℕ → List ℕ
refusal_shown k = field (ascii " refused ") k ++ ascii "\n"

unfoldable pub outcome_shown : ℕ → List ℕ → Outcome Header → List ℕ
outcome_shown pid s (refused k) = refusal_shown k
outcome_shown pid s (resulted h) = key_shown pid h ++ (edition_shown h ++ rest_shown s h.kind)

-- the lines of a section: 15 comes before 1 to 9
unfoldable pub section_shown : ℕ → List ℕ → List ℕ
section_shown pid s = outcome_shown pid s (or_refuse 15 (leb pid 8191) (section_by kind_of s))
