-- `put_last` meets its contract.
use Rattle.lines.specs.Records.{last_line}
use Rattle.shown.proofs.PutLaws.{put_then}
use Rattle.lines.proofs.records.put_last.Goals as goal

pub returns : goal.returns
unfolding last_line
returns c = put_then c.put_field-m.ensures c.put_all.ensures
