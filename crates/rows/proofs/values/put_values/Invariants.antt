-- What holds in the loops of `put_values`.
use Prim.Native.Nat.{◌-◌}
use lib.ListN.{length}
use lib.Seq.{sets}
use Rattle.rrt.specs.Fields.{values_end}
use Rattle.rows.specs.Values.{value_rows}
use Rattle.rows.proofs.ValuesLaws.{ValuesLeft}
use Rattle.rows.proofs.values.put_values.Given as goal

abbrev pub invariant-loop-j : goal.invariant-loop-j
invariant-loop-j l = ValuesLeft l.s l.i (values_end l.s l.n l.from) (length l.initial.out) (sets l.initial.out l.p (value_rows l.s l.i 0 l.n l.from)) l.out l.j l.a l.q (l.n - l.j)
