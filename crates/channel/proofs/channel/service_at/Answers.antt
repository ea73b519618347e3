-- `service_at` meets its contract: what is read is the numbers that the format names.
use Rattle.channel.proofs.HeadLaws.{service_is}
use Rattle.channel.proofs.channel.service_at.Goals as goal

pub returns : goal.returns
returns c = service_is _ _ c.word-flags.ensures.1.1 c.word.ensures.1.1
