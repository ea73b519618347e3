-- `string_heading` meets its contract.
use Rattle.text.proofs.TextLaws.{heading_is}
use Rattle.text.proofs.AmountLaws.{exit}
use Rattle.text.specs.Strings.{string_heading}
use Rattle.refusal.specs.Outcomes.{resulted}
use Rattle.refusal.proofs.OutcomeLaws.{went}
use mathlib.Core.Path.{ap}
use Rattle.text.proofs.inner.string_heading.Goals as goal

pub returns-in_err-b : goal.returns-in_err-b
unfolding string_heading
returns-in_err-b c = exit _ _ c.from_residual.ensures.1 c.find_string.ensures c.in_err-b.was

pub returns : goal.returns
unfolding string_heading
returns c =
    let h = heading_is c.args.s.now _ _ _ _ _ c.back.ensures.0 c.back-2.ensures.0 c.back-3.ensures.0 c.back-4.ensures.0 in
    went _ c.find_string.ensures c.in_ok-b.was (ap resulted h)
