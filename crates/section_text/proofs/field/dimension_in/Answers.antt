-- `dimension_in` meets its contract.
use Rattle.refusal.proofs.OutcomeLaws.{exit}
use Rattle.refusal.specs.Outcomes.{after}
use Rattle.section_text.specs.Fields.{dimension_name_in}
use Rattle.section_text.proofs.field.dimension_in.Goals as goal

pub returns-in_err-d : goal.returns-in_err-d
unfolding dimension_name_in
returns-in_err-d c = exit _ _ c.from_residual.ensures.1 c.spot_in.ensures.0 c.in_err-d.was

pub returns : goal.returns
unfolding dimension_name_in after
returns c =
    rw (← c.spot_in.ensures.0, c.in_ok-d.was, c.dimension_at.ensures)
