-- What holds in the loops of `store`.
use mathlib.Core.Path.{◌≡◌}
use lib.Seq.{paste}
use Rattle.shelf.proofs.delivery.store.Given as goal

abbrev pub invariant-loop-i : goal.invariant-loop-i
invariant-loop-i l = l.area ≡ paste l.initial.area l.at l.bytes l.i
