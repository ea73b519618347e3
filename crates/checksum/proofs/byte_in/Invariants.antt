-- What holds in the loop of `byte_in`: the bits 0 that are left lead to the result.
use mathlib.Core.Path.{◌≡◌}
use Prim.Native.Nat.{◌-◌}
use Rattle.checksum.specs.Register.{bits_in}
use Rattle.checksum.proofs.Steps.{zeros}
use Rattle.checksum.proofs.byte_in.Given as goal

abbrev pub invariant-loop : goal.invariant-loop
invariant-loop l = zeros (8 - l.counter) l.q ≡ bits_in 8 l.x l.r
