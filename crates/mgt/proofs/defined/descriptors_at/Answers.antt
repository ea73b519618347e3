-- `descriptors_at` meets its contract.
use Rattle.mgt.specs.Fields.{descriptors_at}
use native.Mathlib.Omega.{arith}
use Rattle.mgt.proofs.defined.descriptors_at.Goals as goal

pub returns : goal.returns
unfolding descriptors_at
returns c = (c.list_at.ensures.0, (omega arith, c.list_at.ensures.1.1))
