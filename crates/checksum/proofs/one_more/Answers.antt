-- `checksum::one_more` meets its contract: the byte is added to the top one of `a`.
-- Assumes nothing.
use Rattle.checksum.specs.Register.{register_from}
use Rattle.checksum.proofs.Ahead.{one_more}
use Rattle.checksum.proofs.one_more.Goals as goal

pub returns : goal.returns
unfolding register_from
returns c q h =
    let a = c.args in
    one_more q a.a a.x c.byte_ahead.result h c.byte_ahead.ensures
