-- `body` meets its contract.
use Rattle.eit.specs.Walked.{eit}
use Rattle.bytes_at.proofs.WalkLaws.{exit, seq_to}
use Rattle.eit.proofs.walk.body.Goals as goal

pub returns-in_err-b : goal.returns-in_err-b
unfolding eit
returns-in_err-b c = exit _ c.from_residual.ensures.1 c.all_events.ensures c.in_err-b.was

pub returns : goal.returns
unfolding eit
returns c = seq_to _ c.all_events.ensures c.in_ok-b.was c.at_end.ensures
