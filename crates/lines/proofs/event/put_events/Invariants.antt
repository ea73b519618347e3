-- What holds in the loop of `put_events`.
use Prim.Native.Nat.{◌-◌}
use Rattle.lines.proofs.EventLaws.{Left}
use Rattle.lines.proofs.event.put_events.Given as goal

abbrev pub invariant-loop : goal.invariant-loop
invariant-loop l = Left l.s l.k l.from l.initial.out l.n l.out l.m l.a (l.k - l.counter)
