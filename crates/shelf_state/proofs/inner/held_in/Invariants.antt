-- What holds in the loops of `held_in`.
use Prim.Native.Nat.{◌≤◌}
use mathlib.Core.Path.{◌≡◌}
use Rattle.logic.specs.Loops.{count}
use Rattle.shelf_state.specs.Records.{holds_for}
use Rattle.shelf_state.specs.Searches.{place_in}
use Rattle.shelf_state.proofs.inner.held_in.Given as goal

abbrev pub invariant-loop-p : goal.invariant-loop-p
invariant-loop-p l = (l.held ≤ l.p-index) × (l.held ≡ count l.p-index (λ j. holds_for (place_in l.ps j) l.w))
