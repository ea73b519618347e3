-- What holds in the loop of `rows_fit`.
use Prim.Native.Nat.{◌-◌, ◌*◌}
use mathlib.Core.Path.{◌≡◌}
use Rattle.eit.specs.Given.{rows_fit}
use Rattle.eit.proofs.write.rows_fit.Given as goal

abbrev pub invariant-loop-i : goal.invariant-loop-i
invariant-loop-i l = rows_fit l.rows (l.n - l.i) (8 * l.i) ≡ rows_fit l.rows l.n 0
