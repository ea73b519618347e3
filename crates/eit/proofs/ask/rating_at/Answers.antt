-- `rating_at` meets its contract.
use Rattle.eit.specs.Questions.{rating_at}
use Rattle.eit.proofs.ask.rating_at.Goals as goal

pub returns : goal.returns
unfolding rating_at
returns c = rw c.descriptors_at-d.ensures.0 at c.rating_in.ensures
