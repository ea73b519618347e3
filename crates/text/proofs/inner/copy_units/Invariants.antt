-- What holds in the loop of `copy_units`.
use mathlib.Core.Path.{◌≡◌}
use lib.ListN.{length, take}
use lib.Seq.{sets}
use Rattle.text.proofs.inner.copy_units.Given as goal

abbrev pub invariant-loop-i : goal.invariant-loop-i
invariant-loop-i l = (l.out ≡ sets l.initial.out l.n (take l.i l.o)) × (length l.out ≡ length l.initial.out)
