-- `put_key` meets its contract.
use Rattle.lines.specs.Lines.{key_shown}
use Rattle.shown.proofs.PutLaws.{put_then}
use Rattle.lines.proofs.sections.put_key.Goals as goal

pub returns : goal.returns
unfolding key_shown
returns c =
    put_then c.put_field-m.ensures (put_then c.put_kind-x.ensures c.put_number.ensures)
