-- `changed_at` meets its contract: every record before the one met is the same.
use mathlib.Core.Path.{◌∙◌, ap, sym}
use mathlib.Core.Bool.{not}
use native.Mathlib.Omega.{arith}
use borrow.Author.Count.{below_more}
use Rattle.logic.proofs.LoopLaws.{first_at, first_none}
use Rattle.lent_memory.proofs.EqualLaws.{watch_is}
use Rattle.lent_memory.proofs.changes.changed_at.Goals as goal

pub returns-then-ne : goal.returns-then-ne
returns-then-ne c = sym (first_at _ _ _ c.loop-i-test.true c.loop-i.invariant (sym (ap not (watch_is _ _)) ∙ (sym c.ne.ensures ∙ c.if-ne.true)))

pub loop-i-preserved : goal.loop-i-preserved
loop-i-preserved c = below_more _ _ c.loop-i.invariant (sym (ap not (watch_is _ _)) ∙ (sym c.ne.ensures ∙ c.if-ne.false))

pub returns : goal.returns
returns c = sym (first_none _ _ (λ k h. c.loop-i.invariant k (omega arith)))
