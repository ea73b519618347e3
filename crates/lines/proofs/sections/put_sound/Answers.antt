-- `put_sound` meets its contract.
use Rattle.lines.specs.Lines.{outcome_shown}
use Rattle.shown.proofs.PutLaws.{put_then}
use Rattle.lines.proofs.sections.put_sound.Goals as goal

pub returns : goal.returns
unfolding outcome_shown
returns c =
    put_then c.put_key-m.ensures (put_then c.put_edition-x.ensures c.put_body.ensures)
