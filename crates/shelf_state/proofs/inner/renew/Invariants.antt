-- What holds in the loops of `renew`.
use mathlib.Core.Path.{◌≡◌}
use Rattle.shelf_state.specs.Searches.{drop_below}
use Rattle.shelf_state.proofs.inner.renew.Given as goal

abbrev pub invariant-loop-i : goal.invariant-loop-i
invariant-loop-i l = l.t ≡ drop_below l.initial.t l.w l.i
