-- `tuning_at` meets its contract: what is read is the numbers that the format names.
use Rattle.channel.proofs.HeadLaws.{tuning_is}
use Rattle.channel.proofs.channel.tuning_at.Goals as goal

pub returns : goal.returns
returns c =
    tuning_is _ _ c.word.ensures.1.1 c.word-2.ensures.1.1 c.byte.ensures.1.1
    c.long.ensures.1.1 c.word-3.ensures.1.1 c.word-4.ensures.1.1
