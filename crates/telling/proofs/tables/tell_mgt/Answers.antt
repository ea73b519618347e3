-- `tell_mgt` meets its contract.
use mathlib.Core.Path.{refl, ap}
use Rattle.refusal.specs.Outcomes.{outcome}
use Rattle.row.specs.Rows.{part_row}
use Rattle.telling.specs.Tables.{mgt_numbers}
use Rattle.telling.proofs.ToldLaws.{told_result}
use Rattle.telling.proofs.tables.tell_mgt.Goals as goal

pub returns-in-Ok : goal.returns-in-Ok
unfolding mgt_numbers part_row
returns-in-Ok c = told_result _ _ _ _ c.in-Ok.t _ (ap outcome c.in-Ok.is) refl c.three.ensures
