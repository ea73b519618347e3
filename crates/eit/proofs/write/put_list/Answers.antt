-- `put_list` meets its contract.
use Rattle.eit.proofs.WriteLaws.{list_put}
use Rattle.eit.proofs.write.put_list.Goals as goal

pub returns : goal.returns
returns c =
    list_put _ _ c.requires.0.0 _ _ c.put_number.ensures c.put_part.ensures
