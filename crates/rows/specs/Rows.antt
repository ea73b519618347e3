-- SCOPE 2 and 6.2: the rows of all entries of a section, in a lent list of numbers: 1 to 9, then 12.
use Rattle.std.specs.Prelude.{ℕ, zero, suc, ◌*◌, List, [], ◌++◌, leb}
use Rattle.std.proofs.lemmas.List.Edits.{sets}
use Rattle.refusal.specs.Outcomes.{Outcome, refused, resulted, after, or_refuse}
use Rattle.kind.specs.Kinds.{only_of}
use Rattle.mgt.specs.Fields.{defined_row, defined_end}
use Rattle.channel.specs.Fields.{channel_row, channel_end}
use Rattle.rrt.specs.Fields.{dimension_row, dimension_end}
use Rattle.eit.specs.Fields.{event_row, event_end}
use Rattle.section.specs.Sections.{section_by}
use Rattle.entry.specs.declared.Entry.{Entry}
use Rattle.entry.specs.Entries.{entry_count, first_entry}
use Rattle.entry.specs.Records.{kind_of_entry}
use Rattle.entry.specs.declared.Entry.TheVariants.{Table, Channel, Dimension, Event}

-- ---- one row
-- how many numbers the row of an entry has
abbrev pub row_width : Entry → ℕ
row_width Table = 6
row_width Channel = 21
row_width Dimension = 4
row_width Event = 8

-- the row of the entry that begins at a, and where the next entry begins
unfoldable pub row_at : Entry → List ℕ → ℕ → List ℕ
row_at Table s a = defined_row s a
row_at Channel s a = channel_row s a
row_at Dimension s a = dimension_row s a
row_at Event s a = event_row s a

unfoldable pub next_at : Entry → List ℕ → ℕ → ℕ
next_at Table s a = defined_end s a
next_at Channel s a = channel_end s a
next_at Dimension s a = dimension_end s a
next_at Event s a = event_end s a

-- ---- all rows
-- the rows of n entries, the first of which begins at a
unfoldable pub rows_from : Entry → List ℕ → ℕ → ℕ → List ℕ
rows_from r s zero a = []
rows_from r s (suc n) a = row_at r s a ++ rows_from r s n (next_at r s a)

-- 12 where n rows of w numbers have no room
unfoldable pub room_for_rows : ℕ → ℕ → ℕ → Outcome ℕ
room_for_rows w n room = or_refuse 12 (leb (w * n) room) (resulted n)

-- how many rows a section has, or 12 where a list of this length has no room for them
unfoldable pub rows_in : Entry → List ℕ → ℕ → Outcome ℕ
rows_in r s room = room_for_rows (row_width r) (entry_count r s) room

unfoldable pub rows_of : Entry → List ℕ → ℕ → Outcome ℕ
rows_of r s room = after (section_by (only_of (kind_of_entry r)) s) (λ h. rows_in r s room)

-- the lent list after its rows were asked for: they are stored from its beginning on, and nothing else changes
unfoldable pub with_rows : Entry → List ℕ → Outcome ℕ → List ℕ → List ℕ
with_rows r s (refused k) l = l
with_rows r s (resulted n) l = sets l 0 (rows_from r s n (first_entry r s))
