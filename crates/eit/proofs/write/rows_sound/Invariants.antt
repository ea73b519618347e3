-- What holds in the loop of `rows_sound`.
use Prim.Native.Nat.{◌-◌, ◌*◌}
use mathlib.Core.Path.{◌≡◌}
use Rattle.eit.specs.Given.{rows_sound}
use Rattle.eit.proofs.write.rows_sound.Given as goal

abbrev pub invariant-loop-i : goal.invariant-loop-i
invariant-loop-i l = rows_sound l.rows l.bytes (l.n - l.i) (8 * l.i) ≡ rows_sound l.rows l.bytes l.n 0
