-- `fields` meets its contract.
use Rattle.refusal.proofs.OutcomeLaws.{exit}
use Rattle.refusal.specs.Outcomes.{after}
use Rattle.reading.specs.Eits.{fields_of}
use Rattle.reading.proofs.eits.fields.Goals as goal

pub returns-in_err-h : goal.returns-in_err-h
unfolding fields_of
returns-in_err-h c = exit _ _ c.from_residual.ensures.1 c.judge_kind.ensures c.in_err-h.was

pub returns : goal.returns
unfolding fields_of after
returns c =
    rw (← c.judge_kind.ensures, c.in_ok-h.was, c.fields_at.ensures, c.body_start-at.ensures.0)
