-- What holds in the loop of `tables::byte_ahead`: the turns that are left lead to the product.
use Rattle.checksum.proofs.Turns.{Left}
use Rattle.checksum.proofs.tables.byte_ahead.Given as goal

abbrev pub invariant-loop : goal.invariant-loop
invariant-loop g l = Left l.one l.y l.q l.counter
