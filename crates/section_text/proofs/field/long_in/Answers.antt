-- `long_in` meets its contract.
use mathlib.Core.Path.{ap}
use Rattle.refusal.proofs.OutcomeLaws.{exit}
use Rattle.refusal.specs.Outcomes.{resulted, after}
use Rattle.section_text.specs.Fields.{long_text_in}
use Rattle.section_text.proofs.field.long_in.Goals as goal

pub returns-in_err-a : goal.returns-in_err-a
unfolding long_text_in
returns-in_err-a c = exit _ _ c.from_residual.ensures.1 c.value_in.ensures.0 c.in_err-a.was

pub returns : goal.returns
unfolding long_text_in after
returns c =
    rw (← c.value_in.ensures.0, c.in_ok-a.was) (ap (λ t. resulted t.long_text) c.texts_at.ensures)
