-- `name_at` meets its contract: what is read is the numbers that the format names.
use Rattle.channel.proofs.HeadLaws.{name_is}
use Rattle.channel.proofs.channel.name_at.Goals as goal

pub returns : goal.returns
returns c =
    name_is _ _ c.word.ensures.1.1 c.word-2.ensures.1.1 c.word-3.ensures.1.1 c.word-4.ensures.1.1
    c.word-5.ensures.1.1 c.word-6.ensures.1.1 c.word-7.ensures.1.1
