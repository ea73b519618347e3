-- What holds in the loops of `places_ok`.
use Prim.Native.Nat.{◌<◌, ℕ}
use mathlib.Core.Path.{◌≡◌}
use mathlib.Core.Bool.{true}
use Rattle.shelf_state.proofs.FlagLaws.{Seen}
use Rattle.shelf_state.specs.Tests.{place_ok}
use Rattle.shelf_state.proofs.rules.places_ok.Given as goal

abbrev pub invariant-loop-i : goal.invariant-loop-i
invariant-loop-i l = Seen l.s l.i l.seen × ((j : ℕ) → j < l.i → place_ok l.s j ≡ true)
