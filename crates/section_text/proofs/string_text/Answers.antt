-- `string_text` meets its contract: where the text stands, then its bytes; a refusal leaves the output as it was.
use mathlib.Core.Path.{refl, ap}
use Rattle.refusal.specs.Outcomes.{outcome, after}
use Rattle.refusal.proofs.OutcomeLaws.{handed_on}
use Rattle.refusal.specs.Outputs.{output_after}
use Rattle.text.specs.Answers.{amount_of}
use Rattle.text.specs.Replaced.{told_from}
use Rattle.text.specs.Texts.{fitting}
use Rattle.section_text.specs.Texts.{text_units, text_replaced}
use Rattle.section_text.proofs.string_text.Goals as goal

pub returns-in_err-p : goal.returns-in_err-p
unfolding text_units text_replaced told_from fitting amount_of output_after after
returns-in_err-p c =
    rw (← c.field_of.ensures, c.in_err-p.was) record { answers = ap outcome (handed_on c.from_residual.ensures.1); writes = refl }

pub returns : goal.returns
unfolding text_units text_replaced told_from after
returns c = rw (← c.field_of.ensures, c.in_ok-p.was, ← c.part_of-f.ensures) c.string_text.ensures
