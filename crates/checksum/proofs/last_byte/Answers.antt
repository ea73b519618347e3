-- `checksum::last_byte` meets its contract: the byte is added to the top one of `a`.
-- Assumes nothing.
use Rattle.checksum.specs.Register.{register_from}
use Rattle.checksum.proofs.Ahead.{last_byte}
use Rattle.checksum.proofs.last_byte.Goals as goal

pub returns : goal.returns
unfolding register_from
returns c q h =
    let a = c.args in
    last_byte q a.a a.x c.byte_in.result h c.byte_in.ensures
