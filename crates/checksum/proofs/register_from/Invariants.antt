-- What holds in the loop of `register_from`: `a` stands for the register after the blocks that went in, eight bits ahead.
use Prim.Native.Nat.{◌*◌}
use lib.ListN.{take}
use Rattle.checksum.specs.Register.{register_from}
use Rattle.checksum.specs.Ahead.{StandsFor}
use Rattle.checksum.proofs.Steps.{zeros}
use Rattle.checksum.proofs.register_from.Given as goal

abbrev pub invariant-loop-k : goal.invariant-loop-k
invariant-loop-k l = StandsFor (zeros 8 (register_from l.r (take (16 * l.k) l.s))) l.a
