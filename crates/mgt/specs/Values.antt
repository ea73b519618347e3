-- SCOPE 2.1: what is answered for a value of the MGT's format, by the record alone, where its encoding lies at a place.
use Rattle.std.specs.Prelude.{ℕ, ◌+◌, List, [], ◌∷◌, ◌++◌, length}
use Rattle.format.specs.Repeats.{encs}
use Rattle.format.specs.Values.{behind}
use Rattle.part.specs.declared.Part.{Part}
use Rattle.descriptor.specs.Descriptors.{descriptors, no_tag}
use Rattle.row.specs.Rows.{part_row}
use Rattle.mgt.specs.declared.defined.Defined.{Defined}
use Rattle.mgt.specs.declared.table.Table.{Table}
use Rattle.mgt.specs.Format.{defined_head, DefinedFields, defined_format, MgtFields}

-- ---- a defined table that begins at a
-- where its descriptors stand: after the head and a length of two bytes
abbrev pub descriptors_place : ℕ → DefinedFields → Part
descriptors_place a x = record { start = behind defined_head a + 2; length = length ((descriptors no_tag).enc x.descs) }

-- the defined table
abbrev pub defined_for : ℕ → DefinedFields → Defined
defined_for a x = record {
  table_type = x.head.type;
  pid = x.head.pid;
  version = x.head.version;
  number_bytes = x.head.bytes;
  descriptors = descriptors_place a x;
}

-- its row
abbrev pub row_for : ℕ → DefinedFields → List ℕ
row_for a x = (x.head.type ∷ x.head.pid ∷ x.head.version ∷ x.head.bytes ∷ []) ++ part_row (descriptors_place a x)

-- ---- the table, whose body begins at `at`
-- where all that it defines are passed
abbrev pub tables_end : ℕ → MgtFields → ℕ
tables_end at b = at + 2 + length (encs defined_format.enc b.tables)

-- its own fields: the descriptors stand behind those, after a length of two bytes
abbrev pub fields_for : ℕ → MgtFields → Table
fields_for at b = record {
  tables_defined = length b.tables;
  descriptors = record { start = tables_end at b + 2; length = length ((descriptors no_tag).enc b.descs) };
}
