-- SCOPE 2.3 and 6.2: the rows of all values of all dimensions of an RRT, in a lent list of numbers: 1 to 9, then 12.
use Rattle.std.specs.Prelude.{ℕ, zero, suc, ◌+◌, List, [], ◌++◌}
use Rattle.std.proofs.lemmas.List.Edits.{sets}
use Rattle.refusal.specs.Outcomes.{Outcome, refused, resulted, after}
use Rattle.kind.specs.declared.Kind.TheVariants.{Rrt}
use Rattle.kind.specs.Kinds.{only_of}
use Rattle.rrt.specs.Fields.{values_at, first_value_at, value_end, dimension_end, value_row}
use Rattle.section.specs.Sections.{section_by}
use Rattle.entry.specs.declared.Entry.TheVariants.{Dimension}
use Rattle.entry.specs.Entries.{entry_count, first_entry}
use Rattle.rows.specs.Rows.{room_for_rows}

-- the rows of n values of dimension i, the first of which is number j and begins at a
unfoldable pub value_rows : List ℕ → ℕ → ℕ → ℕ → ℕ → List ℕ
value_rows s i j zero a = []
value_rows s i j (suc n) a = value_row s i j a ++ value_rows s i (j + 1) n (value_end s a)

-- of the values of n dimensions, the first of which is number i and begins at d
unfoldable pub dimension_rows : List ℕ → ℕ → ℕ → ℕ → List ℕ
dimension_rows s i zero d = []
dimension_rows s i (suc n) d = value_rows s i 0 (values_at s d) (first_value_at s d) ++ dimension_rows s (i + 1) n (dimension_end s d)

-- how many values n dimensions have, the first of which begins at d
unfoldable pub value_count : List ℕ → ℕ → ℕ → ℕ
value_count s zero d = 0
value_count s (suc n) d = values_at s d + value_count s n (dimension_end s d)

-- how many rows a section has, of six numbers each, or 12 where a list of this length has no room for them
unfoldable pub value_rows_in : List ℕ → ℕ → Outcome ℕ
value_rows_in s room = room_for_rows 6 (value_count s (entry_count Dimension s) (first_entry Dimension s)) room

unfoldable pub value_rows_of : List ℕ → ℕ → Outcome ℕ
value_rows_of s room = after (section_by (only_of Rrt) s) (λ h. value_rows_in s room)

-- the lent list after its rows were asked for: they are stored from its beginning on, and nothing else changes
unfoldable pub with_value_rows : List ℕ → Outcome ℕ → List ℕ → List ℕ
with_value_rows s (refused k) l = l
with_value_rows s (resulted n) l = sets l 0 (dimension_rows s 0 (entry_count Dimension s) (first_entry Dimension s))
