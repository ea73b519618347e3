-- `advisory_text_at` meets its contract.
use Rattle.eit.specs.Questions.{advisory_text_at}
use Rattle.eit.proofs.ask.advisory_text_at.Goals as goal

pub returns : goal.returns
unfolding advisory_text_at
returns c = rw c.descriptors_at-d.ensures.0 at c.advisory_text_in.ensures
