-- `rating` meets its contract.
use mathlib.Core.Path.{ap}
use Rattle.rating.specs.Ratings.{rated_of}
use Rattle.refusal.proofs.OutcomeLaws.{exit_by}
use Rattle.refusal.specs.Outcomes.{resulted, after}
use Rattle.reading.specs.Eits.{rating_of}
use Rattle.reading.proofs.eits.rating.Goals as goal

pub returns-in_err-a : goal.returns-in_err-a
unfolding rating_of
returns-in_err-a c = exit_by rated_of _ _ c.from_residual.ensures.1 c.spot_of.ensures.0 c.in_err-a.was

pub returns : goal.returns
unfolding rating_of after
returns c =
    rw (← c.spot_of.ensures.0, c.in_ok-a.was) (ap resulted c.rating_at.ensures)
