-- `texts_at` meets its contract.
use Rattle.rrt.specs.Fields.{texts_at}
use Rattle.rrt.proofs.dimension.texts_at.Goals as goal

pub returns : goal.returns
unfolding texts_at
returns c = rw (c.text_at-short_text.ensures.0, c.text_at-long_text.ensures.0, c.text_end.ensures.0)
