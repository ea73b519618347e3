-- `string_units` meets its contract: the whole field first.
use Rattle.bytes_at.specs.Walks.{standing}
use Rattle.text.specs.Texts.{field_units}
use Rattle.text.proofs.AmountLaws.{amount_refused, told_as, handed}
use Rattle.text.proofs.TextLaws.{field_sound, field_bad}
use mathlib.Core.Path.{sym, ap, ◌∙◌}
use Rattle.text.proofs.field.string_units.Goals as goal

pub returns-in_err-standing : goal.returns-in_err-standing
unfolding field_units
returns-in_err-standing c =
    let w = told_as (c.standing.ensures ∙ ap standing c.whole_text.ensures) c.in_err-standing.was in
    rw (handed c.from_residual.ensures.1, field_bad _ _ _ w) (sym (amount_refused _ _))

pub returns : goal.returns
unfolding field_units
returns c =
    let w = told_as (c.standing.ensures ∙ ap standing c.whole_text.ensures) c.in_ok-standing.was in
    rw (field_sound _ _ _ w) c.string_units.ensures
