-- `put_times` meets its contract.
use Rattle.lines.specs.Lines.{times_shown}
use Rattle.shown.proofs.PutLaws.{put_then}
use Rattle.lines.proofs.event.put_times.Goals as goal

pub returns : goal.returns
unfolding times_shown
returns c =
    put_then c.put_field-start.ensures (put_then c.put_field-length.ensures c.put_field.ensures)
