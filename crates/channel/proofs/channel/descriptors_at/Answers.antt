-- `descriptors_at` meets its contract.
use native.Mathlib.Omega.{arith}
use Rattle.channel.specs.Fields.{descriptors_at}
use Rattle.channel.proofs.channel.descriptors_at.Goals as goal

pub returns : goal.returns
unfolding descriptors_at
returns c = (c.list_at.ensures.0, (omega arith, c.list_at.ensures.1.1))
