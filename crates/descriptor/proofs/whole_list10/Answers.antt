-- `whole_list10` meets its contract.
use Rattle.descriptor.specs.Places.{list10}
use Rattle.descriptor.specs.Inner.{sized_descriptors}
use Rattle.descriptor.proofs.whole_list10.Goals as goal

pub returns : goal.returns
unfolding list10 sized_descriptors
returns c = c.sized_descriptors.ensures
