-- What holds in the loops of `put_rows`.
use Prim.Native.Nat.{◌-◌}
use lib.ListN.{length}
use lib.Seq.{sets}
use Rattle.rows.specs.Rows.{rows_from}
use Rattle.rows.proofs.RowsLaws.{RowsLeft}
use Rattle.rows.proofs.put_rows.Given as goal

abbrev pub invariant-loop : goal.invariant-loop
invariant-loop l = RowsLeft l.entry l.s (length l.initial.out) (sets l.initial.out 0 (rows_from l.entry l.s l.n l.from)) l.out l.a l.p (l.n - l.counter)
