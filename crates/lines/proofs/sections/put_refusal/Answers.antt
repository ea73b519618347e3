-- `put_refusal` meets its contract.
use Rattle.lines.specs.Lines.{refusal_shown}
use Rattle.shown.proofs.PutLaws.{put_then}
use Rattle.lines.proofs.sections.put_refusal.Goals as goal

pub returns : goal.returns
unfolding refusal_shown
returns c =
    put_then (rw c.number_of.ensures at c.put_field-m.ensures) c.put_all.ensures
