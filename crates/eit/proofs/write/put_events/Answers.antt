-- `put_events` meets its contract: the events that are left lead to the answer.
use native.Mathlib.Omega.{arith}
use Rattle.eit.proofs.EventsLaws.{one_less}
use Rattle.eit.proofs.GivenLaws.{next_row}
use Rattle.eit.proofs.WriteLaws.{event_left, events_step, events_done}
use Rattle.eit.proofs.write.put_events.Goals as goal

pub put_event-next-requires : goal.put_event-next-requires
put_event-next-requires c = event_left _ _ _ _ _ _ _ _ c.loop-i.invariant (omega arith)

pub loop-i-preserved : goal.loop-i-preserved
loop-i-preserved c =
    let q = c.put_event-next.ensures in
    rw (one_less c.args.n c.loop-i.i, next_row c.loop-i.i) (events_step _ _ _ _ _ _ _ _ c.loop-i.invariant _ _ (omega arith) q.puts q.next)

pub returns : goal.returns
returns c = events_done _ _ _ _ _ _ _ _ c.loop-i.invariant (omega arith)
