-- What holds in the loop of `find`.
use Prim.Native.Nat.{◌-◌}
use mathlib.Core.Path.{◌≡◌}
use Rattle.eit.specs.Inner.{Events}
use Rattle.eit.specs.Questions.{find_from}
use Rattle.eit.proofs.search.find.Given as goal

abbrev pub invariant-loop : goal.invariant-loop
invariant-loop l = Events l.s (l.n - l.counter) l.a × (find_from l.s l.id (l.n - l.counter) l.a ≡ find_from l.s l.id l.n l.from)
