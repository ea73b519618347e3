-- What holds in the loop of `descriptor_in`.
use Prim.Native.Nat.{◌-◌}
use mathlib.Core.Path.{◌≡◌}
use Rattle.rating.specs.Ratings.{descriptor_in}
use Rattle.rating.proofs.descriptor_in.Given as goal

abbrev pub invariant-loop : goal.invariant-loop
invariant-loop l = descriptor_in l.s l.end (l.k - l.counter) l.at ≡ descriptor_in l.s l.end l.k l.from
