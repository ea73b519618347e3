-- What holds in the loops of `edit`.
use mathlib.Core.Path.{◌≡◌}
use Rattle.shelf_state.specs.Searches.{drop_below}
use Rattle.shelf.proofs.delivery.edit.Given as goal

abbrev pub invariant-loop-j : goal.invariant-loop-j
invariant-loop-j l = l.t ≡ drop_below l.initial.t l.w l.j
