-- `one_channel` meets its contract.
use Rattle.descriptor.specs.Places.{list10}
use Rattle.channel.specs.Walked.{channel}
use Rattle.bytes_at.proofs.WalkLaws.{exit, seq_to}
use Rattle.channel.proofs.walk.one_channel.Goals as goal

pub returns-in_err-b : goal.returns-in_err-b
unfolding channel list10
returns-in_err-b c = exit _ c.from_residual.ensures.1 c.channel_fields.ensures c.in_err-b.was

pub returns : goal.returns
unfolding channel list10
returns c = seq_to _ c.channel_fields.ensures c.in_ok-b.was c.whole_list10.ensures
