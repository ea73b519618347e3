-- `tell_eit` meets its contract.
use mathlib.Core.Path.{refl, ap}
use Rattle.refusal.specs.Outcomes.{outcome}
use Rattle.telling.specs.Tables.{eit_numbers}
use Rattle.telling.proofs.ToldLaws.{told_result}
use Rattle.telling.proofs.tables.tell_eit.Goals as goal

pub returns-in-Ok : goal.returns-in-Ok
unfolding eit_numbers
returns-in-Ok c = told_result _ _ _ _ c.in-Ok.t _ (ap outcome c.in-Ok.is) refl c.two.ensures
