-- `status` meets its contract: the shelf is as it was.
use mathlib.Core.Path.{◌∙◌, ap, sym}
use Rattle.refusal.specs.Outcomes.{Outcome}
use Rattle.shelf.proofs.CarriedLaws.{status_as}
use Rattle.shelf.specs.Views.{Status}
use Rattle.shelf.proofs.calls.status.Goals as goal

pub returns : goal.returns
returns c = ap (λ (o : Outcome Status). record { outcome = o; shelf = c.args.s }) c.status_in.ensures ∙ sym (status_as _ _ _)
