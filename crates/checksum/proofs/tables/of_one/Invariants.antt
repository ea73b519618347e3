-- What holds in the loop of `tables::of_one`: so many bytes 0 have gone in.
use mathlib.Core.Path.{◌≡◌}
use Prim.Native.Nat.{◌*◌}
use Rattle.checksum.specs.Register.{bits_in}
use Rattle.checksum.proofs.tables.of_one.Given as goal

abbrev pub invariant-loop : goal.invariant-loop
invariant-loop g l = l.r ≡ bits_in (8 * l.counter) 0 1
