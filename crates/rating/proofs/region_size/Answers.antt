-- `region_size` meets its contract.
use Rattle.rating.specs.Ratings.{region_size}
use native.Mathlib.Omega.{arith}
use Rattle.rating.proofs.region_size.Goals as goal

pub returns : goal.returns
unfolding region_size
returns c = (rw (c.ahead.ensures.0, c.rated_size-rated.ensures.0), omega arith)
