-- What holds in the loop of `put_all`: the first bytes are put.
use lib.ListN.{take}
use Rattle.shown.specs.Output.{Put}
use Rattle.shown.proofs.put.put_all.Given as goal

abbrev pub invariant-loop-b : goal.invariant-loop-b
invariant-loop-b l = Put (take l.b-index l.bytes) l.initial.out l.n l.m l.out
