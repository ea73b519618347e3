-- `checksum::eight_far` meets its contract: two numbers of four bytes, the second over the low byte of `a`.
-- Assumes nothing.
use Rattle.checksum.proofs.Blocks.{eight_more}
use Rattle.checksum.proofs.eight_far.Goals as goal

pub returns : goal.returns
returns c q h =
    let a = c.args in
    eight_more 72 q _ _ _ _ _ a.s.now a.at h c.four.ensures c.four-2.ensures c.word_ahead.ensures
    c.word_ahead-2.ensures
