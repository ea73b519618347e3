-- `count_strings` meets its contract: the whole field first.
use Rattle.bytes_at.specs.Walks.{standing}
use Rattle.refusal.proofs.OutcomeLaws.{went}
use Rattle.refusal.specs.Outcomes.{resulted}
use Rattle.text.specs.Texts.{field_count, of_field}
use Rattle.text.proofs.AmountLaws.{exit}
use mathlib.Core.Path.{ap, ◌∙◌}
use Rattle.text.proofs.field.count_strings.Goals as goal

pub returns-in_err-standing : goal.returns-in_err-standing
unfolding field_count of_field
returns-in_err-standing c = exit _ _ c.from_residual.ensures.1 (c.standing.ensures ∙ ap standing c.whole_text.ensures) c.in_err-standing.was

pub returns : goal.returns
unfolding field_count of_field
returns c = went _ (c.standing.ensures ∙ ap standing c.whole_text.ensures) c.in_ok-standing.was (ap resulted c.count_strings.ensures.0)
