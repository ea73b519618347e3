-- `event_end` meets its contract.
use Rattle.eit.specs.Fields.{event_end}
use Rattle.eit.proofs.event.event_end.Goals as goal

pub returns : goal.returns
unfolding event_end
returns c = rw c.text_end.ensures.0 at c.list_end.ensures.0
