-- `string_units` meets its contract: where the text stands, then its bytes.
use mathlib.Core.Path.{ap}
use Rattle.refusal.proofs.OutcomeLaws.{handed_on}
use Rattle.refusal.specs.Outcomes.{outcome, after}
use Rattle.text.specs.Answers.{amount_of}
use Rattle.text.specs.Replaced.{told_from}
use Rattle.section_text.specs.Texts.{text_units, text_replaced}
use Rattle.section_text.proofs.string_units.Goals as goal

pub returns-in_err-p : goal.returns-in_err-p
unfolding text_units text_replaced told_from amount_of after
returns-in_err-p c = rw (← c.field_of.ensures, c.in_err-p.was) (ap outcome (handed_on c.from_residual.ensures.1))

pub returns : goal.returns
unfolding text_units text_replaced told_from after
returns c = rw (← c.field_of.ensures, c.in_ok-p.was, ← c.part_of-f.ensures) c.string_units.ensures
