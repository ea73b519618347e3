-- `status_in` meets its contract: 14 and 17, or the status.
use mathlib.Core.Path.{◌∙◌, ap, sym}
use native.Mathlib.Omega.{arith}
use Rattle.refusal.proofs.OutcomeLaws.{exit_by, went}
use Rattle.refusal.specs.Outcomes.{outcome, resulted}
use Rattle.shelf_state.proofs.RuleLaws.{held_numbers_lem}
use Rattle.shelf.proofs.CarriedLaws.{known_facts}
use Rattle.shelf.specs.Answers.{status_told}
use Rattle.shelf.specs.Calls.{held_numbers}
use Rattle.shelf.proofs.calls.status_in.Goals as goal

pub returns-in_err-w : goal.returns-in_err-w
returns-in_err-w c = exit_by status_told _ _ c.from_residual.ensures.1 c.watch_of.ensures c.in_err-w.was

pub progress_of-requires : goal.progress_of-requires
unfolding held_numbers
progress_of-requires c =
    let k = known_facts _ _ _ _ (sym c.watch_of.ensures ∙ ap outcome c.in_ok-w.was) in
    (omega (arith, k.rules.size.records_16, k.below), k.rules.size.count_64, held_numbers_lem _ _ k.rules _)

pub returns : goal.returns
returns c = went _ c.watch_of.ensures c.in_ok-w.was (ap resulted c.progress_of.ensures)
