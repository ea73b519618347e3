-- What holds in the loop of `plain_segments`.
use Prim.Native.Nat.{◌-◌}
use Rattle.text.proofs.JoinLaws.{Going}
use Rattle.text.specs.Inner.{joined_plain}
use Rattle.text.proofs.segments.plain_segments.Given as goal

abbrev pub invariant-loop : goal.invariant-loop
invariant-loop l = Going (joined_plain l.s l.end l.m l.from) l.initial.out (joined_plain l.s l.end (l.m - l.counter) l.at) l.out l.counter l.n
