-- `fetch` meets its contract: the shelf is as it was.
use mathlib.Core.Path.{◌∙◌, ap, sym}
use Rattle.part.specs.declared.Part.{Part}
use Rattle.refusal.specs.Outcomes.{Outcome}
use Rattle.shelf.proofs.CarriedLaws.{fetched_as}
use Rattle.shelf.proofs.calls.fetch.Goals as goal

pub returns : goal.returns
returns c = ap (λ (o : Outcome Part). record { outcome = o; shelf = c.args.s }) c.fetch_in.ensures ∙ sym (fetched_as _ _ _ _)
