-- What holds in the loop of `count_units`.
use Prim.Native.Nat.{◌-◌}
use lib.ListN.{length}
use Rattle.titles.specs.Titles.{units_from}
use Rattle.titles.proofs.TitlesLaws.{CountLeft}
use Rattle.titles.proofs.count_units.Given as goal

abbrev pub invariant-loop : goal.invariant-loop
invariant-loop l = CountLeft l.s (length (units_from l.s l.k l.from)) l.a l.n (l.k - l.counter)
