-- `rest_in` meets its contract.
use Rattle.entry.specs.Entries.{rest_in}
use Rattle.entry.proofs.rest_in.Goals as goal

pub returns : goal.returns
unfolding rest_in
returns c = (rw (← c.count_of.ensures) c.spot_past.ensures.0, c.spot_past.ensures.1)
