-- `checksum::four_more` meets its contract: the four bytes are a number that is added to the top of `a`.
-- Assumes nothing.
use Rattle.checksum.proofs.Blocks.{four_more}
use Rattle.checksum.proofs.four_more.Goals as goal

pub returns : goal.returns
returns c q h = four_more q _ _ _ _ h c.four.ensures c.word_ahead.ensures
