-- `string_heading` meets its contract: where the text stands, then its bytes.
use Rattle.refusal.proofs.OutcomeLaws.{exit}
use Rattle.refusal.specs.Outcomes.{after}
use Rattle.section_text.specs.Texts.{text_heading}
use Rattle.section_text.proofs.string_heading.Goals as goal

pub returns-in_err-p : goal.returns-in_err-p
unfolding text_heading
returns-in_err-p c = exit _ _ c.from_residual.ensures.1 c.field_of.ensures c.in_err-p.was

pub returns : goal.returns
unfolding text_heading after
returns c = rw (← c.field_of.ensures, c.in_ok-p.was, ← c.part_of-f.ensures) c.string_heading.ensures
