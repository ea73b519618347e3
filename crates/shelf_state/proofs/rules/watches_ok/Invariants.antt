-- What holds in the loops of `watches_ok`.
use Prim.Native.Nat.{◌<◌, ℕ}
use mathlib.Core.Path.{◌≡◌}
use mathlib.Core.Bool.{true}
use Rattle.shelf_state.specs.Tests.{watch_ok}
use Rattle.shelf_state.proofs.rules.watches_ok.Given as goal

abbrev pub invariant-loop-i : goal.invariant-loop-i
invariant-loop-i l = (j : ℕ) → j < l.i → watch_ok l.ws j ≡ true
