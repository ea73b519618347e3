-- `tell_value` meets its contract.
use mathlib.Core.Path.{refl, ap}
use Rattle.refusal.specs.Outcomes.{outcome}
use Rattle.row.specs.Rows.{part_row}
use Rattle.telling.specs.Tables.{value_numbers}
use Rattle.telling.proofs.ToldLaws.{told_result}
use Rattle.telling.proofs.tables.tell_value.Goals as goal

pub returns-in-Ok : goal.returns-in-Ok
unfolding value_numbers part_row
returns-in-Ok c = told_result _ _ _ _ c.in-Ok.v _ (ap outcome c.in-Ok.is) refl c.four.ensures
