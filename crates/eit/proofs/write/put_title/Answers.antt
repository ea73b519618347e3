-- `put_title` meets its contract.
use Rattle.eit.proofs.WriteLaws.{title_put}
use Rattle.eit.proofs.write.put_title.Goals as goal

pub returns : goal.returns
returns c =
    title_put _ _ c.requires.0.0 _ _ c.put_number.ensures c.put_part.ensures
