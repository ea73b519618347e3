-- `at_end` meets its contract.
use native.Mathlib.Omega.{arith}
use Rattle.bytes_at.specs.Walks.{ends}
use borrow.Author.Tests.{eq-eqb, ne_eqb}
use Rattle.bytes_at.proofs.at_end.Goals as goal

pub returns-then-at-end : goal.returns-then-at-end
unfolding ends
returns-then-at-end c = let a = c.args in rw (eq-eqb a.at a.end (omega arith))

pub returns-else-at-end : goal.returns-else-at-end
unfolding ends
returns-else-at-end c = let a = c.args in rw (ne_eqb a.at a.end c.if-at-end.false)
