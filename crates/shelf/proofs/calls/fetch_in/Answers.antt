-- `fetch_in` meets its contract: 14 and 17, then 22.
use mathlib.Core.Path.{◌∙◌, ap, sym}
use Rattle.refusal.proofs.OutcomeLaws.{exit, went}
use Rattle.refusal.specs.Outcomes.{outcome}
use Rattle.shelf.proofs.CarriedLaws.{known_facts}
use Rattle.shelf.proofs.calls.fetch_in.Goals as goal

pub returns-in_err-w : goal.returns-in_err-w
returns-in_err-w c = exit _ _ c.from_residual.ensures.1 c.watch_of.ensures c.in_err-w.was

pub fetch_from-requires : goal.fetch_from-requires
fetch_from-requires c = (known_facts _ _ _ _ (sym c.watch_of.ensures ∙ ap outcome c.in_ok-w.was)).rules.size.count_64

pub returns : goal.returns
returns c = went _ c.watch_of.ensures c.in_ok-w.was c.fetch_from.ensures
