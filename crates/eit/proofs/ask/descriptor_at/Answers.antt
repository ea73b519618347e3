-- `descriptor_at` meets its contract.
use Rattle.eit.specs.Questions.{event_descriptor}
use Rattle.eit.proofs.ask.descriptor_at.Goals as goal

pub returns : goal.returns
unfolding event_descriptor
returns c = rw c.descriptors_at-d.ensures.0 at c.descriptor_in.ensures
