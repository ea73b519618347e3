-- `put_record` meets its contract.
use Rattle.lines.specs.Records.{record_lines}
use Rattle.shown.proofs.PutLaws.{put_then}
use Rattle.lines.proofs.records.put_record.Goals as goal

pub returns : goal.returns
unfolding record_lines
returns c =
    let p = c.put_section.ensures in
    put_then c.put_number-n.ensures (rw (c.pid_of.ensures.0, c.section_of.ensures) at p)
