-- `text_at` meets its contract.
use Rattle.strings.specs.Places.{text_at}
use native.Mathlib.Omega.{arith}
use Rattle.strings.proofs.text_at.Goals as goal

pub returns : goal.returns
unfolding text_at
returns c = (rw c.byte.ensures.0, (omega arith, omega arith))
