-- `whole_list12` meets its contract.
use Rattle.descriptor.specs.Places.{list12}
use Rattle.descriptor.specs.Inner.{sized_descriptors}
use Rattle.descriptor.proofs.whole_list12.Goals as goal

pub returns : goal.returns
unfolding list12 sized_descriptors
returns c = c.sized_descriptors.ensures
