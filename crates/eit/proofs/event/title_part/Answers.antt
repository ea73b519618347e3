-- `title_part` meets its contract.
use native.Mathlib.Omega.{arith}
use Rattle.eit.specs.Fields.{title_part}
use Rattle.eit.proofs.event.title_part.Goals as goal

pub returns : goal.returns
unfolding title_part
returns c = (c.text_at.ensures.0, omega arith)
