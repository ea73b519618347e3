-- What holds in the loop of `all_segments`.
use Rattle.text.proofs.JoinLaws.{Going}
use Rattle.text.specs.Strings.{joined_units}
use Prim.Native.Nat.{◌-◌}
use Rattle.text.proofs.once.all_segments.Given as goal

abbrev pub invariant-loop : goal.invariant-loop
invariant-loop l =
    Going (joined_units l.s l.end l.m l.from) l.initial.out (joined_units l.s l.end (l.m - l.counter) l.at) l.out l.counter l.n
