-- What holds in the loops of `put_dimensions`.
use Prim.Native.Nat.{◌-◌}
use lib.ListN.{length}
use lib.Seq.{sets}
use Rattle.rows.specs.Values.{dimension_rows}
use Rattle.rows.proofs.ValuesLaws.{DimensionsLeft}
use Rattle.rows.proofs.values.put_dimensions.Given as goal

abbrev pub invariant-loop-i : goal.invariant-loop-i
invariant-loop-i l = DimensionsLeft l.s (length l.initial.out) (sets l.initial.out 0 (dimension_rows l.s 0 l.n l.from)) l.out l.i l.d l.p (l.n - l.i)
