-- `checksum::two_more` meets its contract: each byte is added to one of `a`, the first to the top.
-- Assumes nothing.
use Rattle.checksum.specs.Register.{register_from}
use Rattle.checksum.proofs.Ahead.{two_more}
use Rattle.checksum.proofs.two_more.Goals as goal

pub returns : goal.returns
unfolding register_from
returns c q h =
    let a = c.args in
    two_more q a.a a.x a.y _ _ h c.byte_ahead.ensures c.byte_ahead-2.ensures
