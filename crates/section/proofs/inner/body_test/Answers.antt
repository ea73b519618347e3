-- `body_test` meets its contract.
use borrow.Author.Rules.{rules}
use mathlib.Core.Path.{sym, ap, ◌∙◌}
use Rattle.refusal.proofs.OutcomeLaws.{handed_on}
use Rattle.section.specs.Answers.{verdict_of, body_verdict}
use Rattle.section.proofs.OnceLaws.{tested, tested_as}
use Rattle.section.proofs.inner.body_test.Goals as goal

pub returns-in_err-map_err : goal.returns-in_err-map_err
unfolding body_verdict tested
returns-in_err-map_err c =
    let h = c.args.h in
    let e = rw (c.body_end.ensures, c.body_start.ensures.0) at c.whole_body.ensures in
    rw (← e)
    (ap verdict_of (handed_on c.from_residual.ensures.1) ∙ sym (ap (tested h) c.in_err-map_err.was)
    ∙ tested_as h _ _ _ (λ x k p. search rules) c.map_err.ensures.cases)

pub returns : goal.returns
unfolding body_verdict tested
returns c =
    let h = c.args.h in
    let e = rw (c.body_end.ensures, c.body_start.ensures.0) at c.whole_body.ensures in
    rw (← e) (sym (ap (tested h) c.in_ok-map_err.was) ∙ tested_as h _ _ _ (λ x k p. search rules) c.map_err.ensures.cases)
