-- `one_value` meets its contract.
use Rattle.rrt.specs.Walked.{value}
use Rattle.strings.specs.Strings.{sized_text}
use Rattle.bytes_at.proofs.WalkLaws.{exit, seq_to}
use Rattle.rrt.proofs.walk.one_value.Goals as goal

pub returns-in_err-b : goal.returns-in_err-b
unfolding value sized_text
returns-in_err-b c = exit _ c.from_residual.ensures.1 c.sized_text.ensures c.in_err-b.was

pub returns : goal.returns
unfolding value sized_text
returns c = seq_to _ c.sized_text.ensures c.in_ok-b.was c.sized_text-2.ensures
