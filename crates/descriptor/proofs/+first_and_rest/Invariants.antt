-- The bytes left fall at each call of `first_and_rest`.
use Prim.Native.Nat.{◌-◌}
use Rattle.descriptor.proofs.+first_and_rest.Given as goal

abbrev pub decreases-first_and_rest : goal.decreases-first_and_rest
decreases-first_and_rest l = l.end - l.at
