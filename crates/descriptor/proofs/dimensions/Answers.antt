-- `dimensions` meets its contract: a run of one-byte fields fits as a whole, or is cut at the end.
use mathlib.Core.Path.{refl}
use native.Mathlib.Omega.{arith}
use Rattle.bytes_at.specs.Walks.{fields_to}
use Rattle.format.proofs.RepeatLaws.{run_fits, run_past}
use Rattle.bytes_at.proofs.WalkLaws.{many_none, many_bad, bits_past}
use Rattle.descriptor.proofs.dimensions.Goals as goal

pub returns-then-n-eq0 : goal.returns-then-n-eq0
returns-then-n-eq0 c = many_none _ _ _ (omega arith)

pub returns-then-end-at : goal.returns-then-end-at
unfolding fields_to
returns-then-end-at c = many_bad _ _ _ _ _ (omega arith) (bits_past _ _ _ _ _ (omega arith) (omega arith)) refl

pub returns-then-n-end : goal.returns-then-n-end
returns-then-n-end c = let a = c.args in run_fits 2 a.end a.n a.at (omega arith)

pub returns-else-n-end : goal.returns-else-n-end
returns-else-n-end c = let a = c.args in run_past 2 a.end a.n a.at (omega arith) (omega arith)
