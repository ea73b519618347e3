-- `put_bad` meets its contract.
use Rattle.lines.specs.Records.{bad_lines}
use Rattle.shown.proofs.PutLaws.{put_then}
use Rattle.lines.proofs.records.put_bad.Goals as goal

pub returns : goal.returns
unfolding bad_lines
returns c =
    put_then c.put_number-n.ensures (put_then c.put_all-m.ensures c.put_last.ensures)
