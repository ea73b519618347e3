-- `rated_size` meets its contract.
use Rattle.rating.specs.Ratings.{rated_size}
use native.Mathlib.Omega.{arith}
use Rattle.rating.proofs.rated_size.Goals as goal

pub returns : goal.returns
unfolding rated_size
returns c = (omega arith, (omega arith, omega arith))
