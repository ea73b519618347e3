-- `with_body` meets its contract: a refusal goes first, then the body.
use Rattle.refusal.proofs.OutcomeLaws.{handed_on}
use Rattle.section.specs.Answers.{with_body}
use Rattle.section.proofs.inner.with_body.Goals as goal

pub returns-in_err-head : goal.returns-in_err-head
unfolding with_body
returns-in_err-head c = rw (handed_on c.from_residual.ensures.1, c.in_err-head.was)

pub returns : goal.returns
unfolding with_body
returns c = rw c.in_ok-head.was c.body_test.ensures
