-- `title_in` meets its contract.
use Rattle.refusal.proofs.OutcomeLaws.{exit}
use Rattle.refusal.specs.Outcomes.{after}
use Rattle.section_text.specs.Fields.{title_in}
use Rattle.section_text.proofs.field.title_in.Goals as goal

pub returns-in_err-a : goal.returns-in_err-a
unfolding title_in
returns-in_err-a c = exit _ _ c.from_residual.ensures.1 c.spot_in.ensures.0 c.in_err-a.was

pub returns : goal.returns
unfolding title_in after
returns c =
    rw (← c.spot_in.ensures.0, c.in_ok-a.was, c.title_field.ensures, c.title_at.ensures)
