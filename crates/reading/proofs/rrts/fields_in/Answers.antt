-- `fields_in` meets its contract.
use Rattle.refusal.proofs.OutcomeLaws.{exit}
use Rattle.refusal.specs.Outcomes.{after}
use Rattle.reading.specs.Rrts.{fields_in}
use Rattle.reading.proofs.rrts.fields_in.Goals as goal

pub returns-in_err-b : goal.returns-in_err-b
unfolding fields_in
returns-in_err-b c = exit _ _ c.from_residual.ensures.1 c.rest_in.ensures.0 c.in_err-b.was

pub returns : goal.returns
unfolding fields_in after
returns c =
    rw (← c.rest_in.ensures.0, c.in_ok-b.was, c.fields_at.ensures, c.body_start.ensures.0)
