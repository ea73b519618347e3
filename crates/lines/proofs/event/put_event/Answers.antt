-- `put_event` meets its contract.
use Rattle.lines.specs.Lines.{event_line}
use Rattle.shown.proofs.PutLaws.{put_then}
use Rattle.lines.proofs.event.put_event.Goals as goal

pub returns : goal.returns
unfolding event_line
returns c =
    let e = c.event_at-e.ensures in
    put_then (rw e at c.put_times-m.ensures) (rw e at c.put_rest.ensures)
