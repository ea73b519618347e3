-- What holds in the loop of `segments_once`.
use Rattle.text.proofs.JoinLaws.{Going}
use Rattle.text.specs.Strings.{joined_units}
use Prim.Native.Nat.{◌-◌, ◌*◌, ◌≤◌}
use Rattle.text.proofs.once.segments_once.Given as goal

abbrev pub invariant-loop : goal.invariant-loop
invariant-loop l =
    Going (joined_units l.s l.end l.m l.from) l.initial.o (joined_units l.s l.end (l.m - l.counter) l.at) l.o l.counter l.n
    × (l.from ≤ l.at) × (l.n ≤ 8 * (l.at - l.from)) × (l.n ≤ 2040)
