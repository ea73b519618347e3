-- `descriptor_size` meets its contract.
use Rattle.rating.specs.Ratings.{descriptor_size}
use native.Mathlib.Omega.{arith}
use Rattle.rating.proofs.descriptor_size.Goals as goal

pub returns : goal.returns
unfolding descriptor_size
returns c = (omega arith, (omega arith, omega arith))
