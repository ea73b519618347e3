-- What holds in the loop of `put_units`: the first units are shown.
use lib.ListN.{take}
use Rattle.shown.specs.Titles.{all_shown}
use Rattle.shown.specs.Output.{Put}
use Rattle.shown.proofs.title.put_units.Given as goal

abbrev pub invariant-loop-u : goal.invariant-loop-u
invariant-loop-u l = Put (all_shown (take l.u-index l.units)) l.initial.out l.n l.m l.out
