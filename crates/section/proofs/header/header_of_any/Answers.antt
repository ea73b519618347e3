-- `header_of_any` meets its contract: 1, then the others.
use native.Mathlib.Omega.{arith}
use Rattle.section.proofs.TestLaws.{too_short, long_enough}
use Rattle.section.proofs.header.header_of_any.Goals as goal

pub returns-then-s-lt3 : goal.returns-then-s-lt3
returns-then-s-lt3 c = too_short _ _ (omega arith)

pub returns : goal.returns
returns c = long_enough _ _ (omega arith)
    (rw (← c.byte.ensures.0, ← c.of.ensures) c.of_found.ensures)
