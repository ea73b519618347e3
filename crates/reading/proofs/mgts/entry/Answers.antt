-- `entry` meets its contract.
use Rattle.refusal.proofs.OutcomeLaws.{exit}
use Rattle.refusal.specs.Outcomes.{after}
use Rattle.reading.specs.Mgts.{entry_of}
use Rattle.reading.proofs.mgts.entry.Goals as goal

pub returns-in_err-a : goal.returns-in_err-a
unfolding entry_of
returns-in_err-a c = exit _ _ c.from_residual.ensures.1 c.spot_of.ensures.0 c.in_err-a.was

pub returns : goal.returns
unfolding entry_of after
returns c =
    rw (← c.spot_of.ensures.0, c.in_ok-a.was, c.defined_at.ensures)
