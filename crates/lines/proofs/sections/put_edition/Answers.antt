-- `put_edition` meets its contract.
use Rattle.lines.specs.Lines.{edition_shown}
use Rattle.shown.proofs.PutLaws.{put_then}
use Rattle.lines.proofs.sections.put_edition.Goals as goal

pub returns : goal.returns
unfolding edition_shown
returns c =
    put_then c.put_field-number.ensures (put_then c.put_field-last.ensures c.put_field.ensures)
