-- What holds in the loop of `put_titles`.
use Prim.Native.Nat.{◌-◌}
use lib.ListN.{length}
use lib.Seq.{sets}
use Rattle.titles.specs.Titles.{units_from, title_rows_from}
use Rattle.titles.proofs.TitlesLaws.{TitlesLeft}
use Rattle.titles.proofs.put_titles.Given as goal

abbrev pub invariant-loop : goal.invariant-loop
invariant-loop l =
    TitlesLeft l.s (length (units_from l.s l.k l.from)) l.initial.rows (sets l.initial.rows 0 (title_rows_from l.s 0 l.k l.from)) l.initial.units
    (sets l.initial.units 0 (units_from l.s l.k l.from)) l.rows l.units l.a l.p l.n (l.k - l.counter)
