-- SCOPE 2.5: what is answered for a value of the ETT's format, by the record alone, where its encoding lies at a place.
use Rattle.std.specs.Prelude.{ℕ, length}
use Rattle.format.specs.Values.{behind}
use Rattle.strings.specs.Strings.{structure}
use Rattle.ett.specs.declared.table.Table.{Table}
use Rattle.ett.specs.Format.{etm_head, EttFields}

-- the text stands behind ETM_id
abbrev pub fields_for : ℕ → ℕ → EttFields → Table
fields_for extension at e = record {
  extension = extension;
  etm_id = e.etm;
  text = record { start = behind etm_head at; length = length (structure.enc e.text) };
}
