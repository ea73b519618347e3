-- `tell_dimension` meets its contract.
use mathlib.Core.Path.{refl, ap}
use Rattle.refusal.specs.Outcomes.{outcome}
use Rattle.row.specs.Rows.{part_row}
use Rattle.telling.specs.Tables.{dimension_numbers}
use Rattle.telling.proofs.ToldLaws.{told_result}
use Rattle.telling.proofs.tables.tell_dimension.Goals as goal

pub returns-in-Ok : goal.returns-in-Ok
unfolding dimension_numbers part_row
returns-in-Ok c = told_result _ _ _ _ c.in-Ok.d _ (ap outcome c.in-Ok.is) refl c.four.ensures
