-- `advisory_in` meets its contract.
use mathlib.Core.Path.{ap, ◌∙◌}
use Rattle.refusal.proofs.OutcomeLaws.{exit, none_refused}
use Rattle.refusal.specs.Outcomes.{after, or_none}
use Rattle.section_text.specs.Fields.{advisory_text_in}
use Rattle.section_text.proofs.field.advisory_in.Goals as goal

pub returns-in_err-a : goal.returns-in_err-a
unfolding advisory_text_in
returns-in_err-a c = exit _ _ c.from_residual.ensures.1 c.spot_in.ensures.0 c.in_err-a.was

pub returns : goal.returns
unfolding advisory_text_in after
returns c =
    rw (← c.spot_in.ensures.0, c.in_ok-a.was) (none_refused _ c.ok_or.ensures.value ∙ ap or_none c.advisory_text_at.ensures)
