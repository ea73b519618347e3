-- What holds in the loop of `store`.
use Rattle.text.specs.Inner.{plain_pairs}
use lib.Seq.{sets}
use lib.ListN.{take}
use mathlib.Core.Path.{◌≡◌}
use Rattle.text.proofs.segments.store.Given as goal

abbrev pub invariant-loop-i : goal.invariant-loop-i
invariant-loop-i l = l.out ≡ sets l.initial.out l.n (take l.i (plain_pairs l.wide l.s))
