-- `one_defined` meets its contract.
use Rattle.mgt.specs.Walked.{defined}
use Rattle.descriptor.specs.Places.{list12}
use Rattle.bytes_at.proofs.WalkLaws.{exit, seq_to}
use Rattle.mgt.proofs.walk.one_defined.Goals as goal

pub returns-in_err-b : goal.returns-in_err-b
unfolding defined list12
returns-in_err-b c = exit _ c.from_residual.ensures.1 c.skip_fields.ensures c.in_err-b.was

pub returns : goal.returns
unfolding defined list12
returns c = seq_to _ c.skip_fields.ensures c.in_ok-b.was c.whole_list12.ensures
