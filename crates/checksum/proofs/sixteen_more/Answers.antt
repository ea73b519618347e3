-- `checksum::sixteen_more` meets its contract: two blocks of eight, the second from a register of its own.
-- Assumes nothing.
use native.Mathlib.Omega.{arith}
use Rattle.checksum.proofs.Ahead.{ahead}
use Rattle.checksum.proofs.Blocks.{two_eights}
use Rattle.checksum.proofs.sixteen_more.Goals as goal

pub returns : goal.returns
returns c q h =
    two_eights q _ _ c.args.s.now c.args.at c.requires (c.eight_far.ensures q h)
    (c.eight_more.ensures 0 (ahead 8 0 (omega arith) (omega arith)))
