-- What holds in the loop of `put_part`.
use mathlib.Core.Path.{◌≡◌}
use lib.ListN.{take, drop}
use lib.Seq.{sets}
use Rattle.bytes_put.proofs.put_part.Given as goal

abbrev pub invariant-loop-i : goal.invariant-loop-i
invariant-loop-i l = l.out ≡ sets l.initial.out l.at (take l.i (drop l.p.start l.s))
