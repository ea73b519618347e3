-- `held_in` meets its contract: the count so far.
use mathlib.Core.Path.{◌∙◌, ap, sym}
use native.Mathlib.Omega.{arith}
use borrow.Author.Rules.{rules}
use Rattle.logic.proofs.LoopLaws.{sum_more, sum_none}
use Rattle.logic.specs.Loops.{one}
use Rattle.shelf_state.specs.Records.{holds_for}
use Rattle.shelf_state.specs.Searches.{place_in}
use Rattle.shelf_state.proofs.inner.held_in.Goals as goal
use Rattle.shelf_state.proofs.inner.held_in.Goals.{else-holds_for, then-holds_for}

pub loop-p-init : goal.loop-p-init
loop-p-init c = (search rules, sym (sum_none (λ j. one (holds_for (place_in c.args.ps.now j) c.args.w))))

pub loop-p-preserved : goal.loop-p-preserved
loop-p-preserved c = let e = sum_more (λ j. one (holds_for (place_in c.args.ps.now j) c.args.w)) c.loop-p.p-index in
    elim c.if-holds_for.branch [ then-holds_for u ↦ (search rules, omega (arith, e, ap one (sym c.holds_for.ensures ∙ u.if-holds_for.true))) | else-holds_for u ↦ (search rules, omega (arith, e, ap one (sym c.holds_for.ensures ∙ u.if-holds_for.false))) ]
