-- `put_events` meets its contract: the lines that are left lead to the answer.
use native.Mathlib.Omega.{arith}
use Rattle.lines.proofs.EventLaws.{title_placed, left_first, left_step, left_done}
use Rattle.lines.proofs.event.put_events.Goals as goal

pub loop-init : goal.loop-init
loop-init c = left_first c.requires c.min-m.ensures (omega arith)

pub put_event-m-requires : goal.put_event-m-requires
put_event-m-requires c =
    let i = c.loop.invariant in
    (i.events.begins, title_placed _ _ _ (λ j. omega (arith, c.type_inv.s j)) i.events (omega arith))

pub loop-preserved : goal.loop-preserved
loop-preserved c =
    left_step c.loop.invariant (omega arith) (omega arith) c.put_event-m.ensures c.event_end-a.ensures

pub returns : goal.returns
returns c = left_done c.loop.invariant (omega arith)
