-- `put_quoted` meets its contract.
use Rattle.shown.specs.Titles.{text_shown}
use Rattle.shown.proofs.PutLaws.{put_then}
use Rattle.shown.proofs.title.put_quoted.Goals as goal

pub returns : goal.returns
unfolding text_shown
returns c =
    put_then c.put_all-m.ensures (put_then c.put_units-end.ensures c.put_all.ensures)
