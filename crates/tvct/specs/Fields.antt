-- SCOPE 2.2: the fields of a TVCT whose body begins at `at`.
use Rattle.std.specs.Prelude.{ℕ, ◌+◌, List}
use Rattle.bytes_at.specs.Fields.{byte_at}
use Rattle.descriptor.specs.Places.{list_at}
use Rattle.tvct.specs.declared.table.Table.{Table}

-- the count of channels, and where the first begins
abbrev pub count_at : List ℕ → ℕ → ℕ
count_at s at = byte_at s at

abbrev pub first_at : ℕ → ℕ
first_at at = at + 1

-- table_id_extension is the TSID; the table's own descriptors begin at b, where the walk past all channels stands
abbrev pub fields_at : List ℕ → ℕ → ℕ → ℕ → Table
fields_at s extension at b = record { tsid = extension; count = count_at s at; descriptors = list_at 1024 s b }
