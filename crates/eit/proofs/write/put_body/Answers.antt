-- `put_body` meets its contract: the count, then the events.
use Rattle.eit.proofs.WriteLaws.{body_put}
use Rattle.eit.proofs.write.put_body.Goals as goal

pub returns : goal.returns
returns c =
    body_put _ _ _ _ _ c.put_number.ensures c.put_events.ensures
