-- `one_region` meets its contract.
use Rattle.bytes_at.proofs.WalkLaws.{exit, seq_to}
use Rattle.descriptor.specs.Descriptors.{region}
use Rattle.descriptor.proofs.one_region.Goals as goal

pub returns-in_err-b : goal.returns-in_err-b
unfolding region
returns-in_err-b c = exit _ c.from_residual.ensures.1 c.one_rated.ensures c.in_err-b.was

pub returns : goal.returns
unfolding region
returns c = seq_to _ c.one_rated.ensures c.in_ok-b.was c.sized_text.ensures
