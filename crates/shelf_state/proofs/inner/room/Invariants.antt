-- What holds in the loops of `room`.
use Prim.Native.Nat.{◌+◌}
use mathlib.Core.Path.{◌≡◌}
use Rattle.shelf_state.specs.Searches.{promised_in}
use Rattle.shelf_state.proofs.inner.room.Given as goal

abbrev pub invariant-loop-w : goal.invariant-loop-w
invariant-loop-w l = promised_in l.ws l.w-index + (l.extra + l.left) ≡ l.places
