-- `string_text` meets its contract: the whole field first.
use Rattle.bytes_at.specs.Walks.{standing}
use Rattle.text.specs.Texts.{field_units, field_replaced}
use Rattle.text.proofs.AmountLaws.{told_as, handed}
use Rattle.text.proofs.TextLaws.{field_sound, field_bad, text_refused}
use mathlib.Core.Path.{ap, ◌∙◌}
use Rattle.text.proofs.field.string_text.Goals as goal

pub returns-in_err-standing : goal.returns-in_err-standing
unfolding field_units
returns-in_err-standing c =
    let a = c.args in
    let w = told_as (c.standing.ensures ∙ ap standing c.whole_text.ensures) c.in_err-standing.was in
    let h = text_refused (field_replaced a.field.now a.k) a.out.now _ _ (field_bad _ _ _ w) in
    rw (handed c.from_residual.ensures.1) (record { answers = h.0; writes = h.1 })

pub returns : goal.returns
unfolding field_units
returns c =
    let w = told_as (c.standing.ensures ∙ ap standing c.whole_text.ensures) c.in_ok-standing.was in
    let s = c.string_text.ensures in
    record { answers = rw (field_sound _ _ _ w) s.answers; writes = rw (field_sound _ _ _ w) s.writes }
