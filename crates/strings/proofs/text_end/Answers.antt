-- `text_end` meets its contract.
use native.Mathlib.Omega.{arith}
use Rattle.strings.specs.Places.{text_end}
use Rattle.strings.proofs.text_end.Goals as goal

pub returns : goal.returns
unfolding text_end
returns c =
    (rw c.byte.ensures.0, omega arith)
