-- `whole_descriptors` meets its contract: as many steps as there are bytes left are enough.
use native.Mathlib.Omega.{arith}
use Rattle.descriptor.specs.Descriptors.{descriptors}
use Rattle.descriptor.proofs.whole_descriptors.Goals as goal

pub returns : goal.returns
unfolding descriptors
returns c = c.first_and_rest.ensures _ (omega arith)
