-- `value` meets its contract.
use Rattle.refusal.proofs.OutcomeLaws.{exit, went}
use Rattle.reading.specs.Rrts.{value_of}
use Rattle.reading.proofs.rrts.value.Goals as goal

pub returns-in_err-d : goal.returns-in_err-d
unfolding value_of
returns-in_err-d c = exit _ _ c.from_residual.ensures.1 c.spot_of.ensures.0 c.in_err-d.was

pub returns-in_err-a : goal.returns-in_err-a
unfolding value_of
returns-in_err-a c =
    went _ c.spot_of.ensures.0 c.in_ok-d.was (exit _ _ c.from_residual-in_err-a.ensures.1 c.value_spot.ensures.0 c.in_err-a.was)

pub returns : goal.returns
unfolding value_of
returns c = went _ c.spot_of.ensures.0 c.in_ok-d.was (went _ c.value_spot.ensures.0 c.in_ok-a.was (rw c.texts_at.ensures))
