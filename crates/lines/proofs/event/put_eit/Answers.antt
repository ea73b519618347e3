-- `put_eit` meets its contract.
use Rattle.lines.specs.Lines.{events_shown}
use Rattle.shown.proofs.PutLaws.{put_then}
use Rattle.lines.proofs.event.put_eit.Goals as goal

pub returns : goal.returns
unfolding events_shown
returns c =
    let k = c.count-k.ensures.0 in
    let lines = rw (c.first.ensures, k) at c.list_events.ensures in
    put_then (rw k at c.put_field-m.ensures) (put_then c.put_all-x.ensures lines)
