-- `string_heading` meets its contract: the whole field first.
use Rattle.bytes_at.specs.Walks.{standing}
use Rattle.refusal.proofs.OutcomeLaws.{went}
use Rattle.text.specs.Texts.{field_heading, of_field}
use Rattle.text.proofs.AmountLaws.{exit}
use mathlib.Core.Path.{ap, ◌∙◌}
use Rattle.text.proofs.field.string_heading.Goals as goal

pub returns-in_err-standing : goal.returns-in_err-standing
unfolding field_heading of_field
returns-in_err-standing c = exit _ _ c.from_residual.ensures.1 (c.standing.ensures ∙ ap standing c.whole_text.ensures) c.in_err-standing.was

pub returns : goal.returns
unfolding field_heading of_field
returns c = went _ (c.standing.ensures ∙ ap standing c.whole_text.ensures) c.in_ok-standing.was c.string_heading.ensures
