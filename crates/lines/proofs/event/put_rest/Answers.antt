-- `put_rest` meets its contract.
use Rattle.shown.proofs.PutLaws.{put_then}
use Rattle.lines.proofs.event.put_rest.Goals as goal

pub returns : goal.returns
returns c =
    put_then c.put_all-start.ensures (put_then c.put_title-end.ensures c.put_all.ensures)
