-- `list_text` meets its contract: 9, then what the list says.
use mathlib.Core.Path.{◌∙◌, ap, sym}
use Rattle.refusal.specs.Outcomes.{or_refuse, or_none}
use Rattle.refusal.proofs.OutcomeLaws.{none_refused}
use Rattle.reading.specs.Eits.{if_filled}
use Rattle.reading.proofs.eits.list_text.Goals as goal

pub returns-then-not-is_filled : goal.returns-then-not-is_filled
unfolding if_filled or_refuse
returns-then-not-is_filled c = rw (sym c.is_filled.ensures ∙ c.if-not-is_filled.true)

pub returns : goal.returns
unfolding if_filled or_refuse
returns c =
    rw (sym c.is_filled.ensures ∙ c.if-not-is_filled.false) (none_refused _ c.ok_or.ensures.value ∙ ap or_none c.advisory_text_in.ensures)
