-- `after_name` meets its contract.
use Rattle.bytes_at.proofs.WalkLaws.{exit, seq_to}
use Rattle.rrt.specs.Walked.{dimensions_and_list}
use Rattle.rrt.proofs.walk.after_name.Goals as goal

pub returns-in_err-b : goal.returns-in_err-b
unfolding dimensions_and_list
returns-in_err-b c = exit _ c.from_residual.ensures.1 c.all_dimensions.ensures c.in_err-b.was

pub returns : goal.returns
unfolding dimensions_and_list
returns c = seq_to _ c.all_dimensions.ensures c.in_ok-b.was c.whole_list10.ensures
