-- What holds in the loops of `lowest_missing`.
use Prim.Native.Nat.{◌<◌, ℕ}
use mathlib.Core.Path.{◌≡◌}
use mathlib.Core.Bool.{true}
use Rattle.shelf_state.specs.Searches.{is_held}
use Rattle.shelf.proofs.inner.lowest_missing.Given as goal

abbrev pub invariant-loop-m : goal.invariant-loop-m
invariant-loop-m l = (j : ℕ) → j < l.m → is_held l.fn.s l.w j ≡ true
