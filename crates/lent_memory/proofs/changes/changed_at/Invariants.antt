-- What holds in the loops of `changed_at`.
use Prim.Native.Nat.{◌<◌, ℕ}
use mathlib.Core.Path.{◌≡◌}
use mathlib.Core.Bool.{false, not}
use Rattle.shelf_state.specs.Records.{watch_at}
use Rattle.lent_memory.specs.Changes.{equal_watch}
use Rattle.lent_memory.proofs.changes.changed_at.Given as goal

abbrev pub invariant-loop-i : goal.invariant-loop-i
invariant-loop-i l = (j : ℕ) → j < l.i → not (equal_watch (watch_at l.s j) (watch_at l.t j)) ≡ false
