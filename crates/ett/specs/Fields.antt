-- SCOPE 2.5: the fields of an ETT whose body stands from `at` to `end`.
use Rattle.std.specs.Prelude.{ℕ, ◌-◌, List}
use Rattle.format.specs.Values.{behind}
use Rattle.format.specs.Heads.{vals_at}
use Rattle.ett.specs.declared.table.Table.{Table}
use Rattle.ett.specs.Format.{etm_head}

-- ETM_id; the text stands behind it, and takes what is left of the body
unfoldable pub fields_at : List ℕ → ℕ → ℕ → ℕ → Table
fields_at s extension at end = record {
  extension = extension;
  etm_id = (vals_at etm_head s at 0).0;
  text = record { start = behind etm_head at; length = end - behind etm_head at };
}
