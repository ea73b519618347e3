-- SCOPE 2.1: the fields of an MGT whose body begins at `at`, and of a defined table that begins at a. Each is a selection of what
-- stands at the bits that the format gives it.
use Rattle.std.specs.Prelude.{ℕ, ◌+◌, List, [], ◌∷◌, ◌++◌}
use Rattle.bytes_at.specs.Fields.{word_at}
use Rattle.format.specs.Values.{behind}
use Rattle.format.specs.Heads.{vals_at}
use Rattle.part.specs.declared.Part.{Part}
use Rattle.descriptor.specs.Places.{list_at, list_end}
use Rattle.row.specs.Rows.{part_row}
use Rattle.mgt.specs.declared.defined.Defined.{Defined}
use Rattle.mgt.specs.declared.table.Table.{Table}
use Rattle.mgt.specs.Format.{defined_head, DefinedHead, head_in}

-- ---- the table
-- tables_defined, and where the first of them begins
abbrev pub count_at : List ℕ → ℕ → ℕ
count_at s at = word_at s at

abbrev pub first_at : ℕ → ℕ
first_at at = at + 2

-- the table's own descriptors begin at b, where the walk past all defined tables stands
abbrev pub fields_at : List ℕ → ℕ → ℕ → Table
fields_at s at b = record { tables_defined = count_at s at; descriptors = list_at 4096 s b }

-- ---- a defined table
abbrev pub head_at : List ℕ → ℕ → DefinedHead
head_at s a = head_in (vals_at defined_head s a 0)

unfoldable pub descriptors_at : List ℕ → ℕ → Part
descriptors_at s a = list_at 4096 s (behind defined_head a)

-- where it ends
unfoldable pub defined_end : List ℕ → ℕ → ℕ
defined_end s a = list_end 4096 s (behind defined_head a)

unfoldable pub defined_at : List ℕ → ℕ → Defined
defined_at s a = record {
  table_type = (head_at s a).type;
  pid = (head_at s a).pid;
  version = (head_at s a).version;
  number_bytes = (head_at s a).bytes;
  descriptors = descriptors_at s a;
}

-- ---- the row of a defined table
-- table_type, PID, version, number_bytes
unfoldable pub numbers_row : List ℕ → ℕ → List ℕ
numbers_row s a = (head_at s a).type ∷ (head_at s a).pid ∷ (head_at s a).version ∷ (head_at s a).bytes ∷ []

-- six numbers: those; where the descriptors begin, descriptors_length
unfoldable pub defined_row : List ℕ → ℕ → List ℕ
defined_row s a = numbers_row s a ++ part_row (descriptors_at s a)
