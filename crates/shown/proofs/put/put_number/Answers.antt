-- `put_number` meets its contract.
use native.Mathlib.Omega.{arith}
use Rattle.shown.specs.Ascii.{decimal}
use Rattle.shown.proofs.put.put_number.Goals as goal

pub returns : goal.returns
unfolding decimal
returns c = c.put_digits.ensures _ (omega arith)
