-- `read_behind` meets its contract: the read put some bytes behind those in hand.
use Rattle.std.proofs.Common.{rules}
use native.Mathlib.Omega.{arith}
use Rattle.lister.proofs.ReadingLaws.{fetched_read}
use Rattle.lister.proofs.read_behind.Goals as goal

pub returns : goal.returns
returns g c =
    fetched_read c.args.room.now c.read-got.new.buf c.args.from c.args.to c.unwrap_or-came.result _ (omega arith) (omega arith) (search rules) (search rules)
