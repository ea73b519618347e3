-- `count_strings` meets its contract: where the text stands, then its bytes.
use mathlib.Core.Path.{ap}
use Rattle.refusal.proofs.OutcomeLaws.{exit}
use Rattle.refusal.specs.Outcomes.{resulted, after}
use Rattle.section_text.specs.Texts.{text_count}
use Rattle.section_text.proofs.count_strings.Goals as goal

pub returns-in_err-p : goal.returns-in_err-p
unfolding text_count
returns-in_err-p c = exit _ _ c.from_residual.ensures.1 c.field_of.ensures c.in_err-p.was

pub returns : goal.returns
unfolding text_count after
returns c = rw (← c.field_of.ensures, c.in_ok-p.was, ← c.part_of-f.ensures) (ap resulted c.count_strings.ensures.0)
