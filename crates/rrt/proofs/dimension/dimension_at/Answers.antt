-- `dimension_at` meets its contract.
use Rattle.rrt.proofs.FieldLaws.{dimension_is}
use Rattle.rrt.proofs.dimension.dimension_at.Goals as goal

pub returns : goal.returns
returns c = dimension_is _ _ _ _ _ c.text_at-name.ensures.0 c.text_end.ensures.0 c.byte-x.ensures.0 c.byte-x.ensures.1.1
