-- What holds in the loop of `values_end`.
use Prim.Native.Nat.{◌-◌}
use mathlib.Core.Path.{◌≡◌}
use Rattle.rrt.specs.Fields.{values_end}
use Rattle.rrt.specs.Inner.{ValuesStand}
use Rattle.rrt.proofs.dimension.values_end.Given as goal

abbrev pub invariant-loop : goal.invariant-loop
invariant-loop l = ValuesStand l.s (l.n - l.counter) l.a × (values_end l.s (l.n - l.counter) l.a ≡ values_end l.s l.n l.from)
