-- `title_at` meets its contract.
use Rattle.eit.specs.Fields.{title_at}
use Rattle.eit.proofs.event.title_at.Goals as goal

pub returns : goal.returns
unfolding title_at
returns c = rw c.title_part-p.ensures.0 at c.title_of.ensures
