-- What holds in the loop of `events_size`.
use Prim.Native.Nat.{◌+◌, ◌-◌, ◌*◌, ◌≤◌}
use mathlib.Core.Path.{◌≡◌}
use Rattle.eit.specs.Inner.{size_given}
use Rattle.eit.proofs.write.events_size.Given as goal

abbrev pub invariant-loop-i : goal.invariant-loop-i
invariant-loop-i l = (size_given l.rows l.n 0 ≤ 1112310) × (l.size + size_given l.rows (l.n - l.i) (8 * l.i) ≡ size_given l.rows l.n 0)
