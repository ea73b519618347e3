-- What holds in the loop of `put_events`.
use Prim.Native.Nat.{◌-◌, ◌*◌}
use lib.ListN.{length}
use lib.Seq.{sets}
use Rattle.format.specs.Repeats.{encs}
use Rattle.format.specs.Formats.{any_bytes}
use Rattle.eit.specs.Format.{event_of}
use Rattle.eit.specs.Given.{events_given}
use Rattle.eit.proofs.WriteLaws.{EventsLeft}
use Rattle.eit.proofs.write.put_events.Given as goal

abbrev pub invariant-loop-i : goal.invariant-loop-i
invariant-loop-i l =
    EventsLeft l.rows l.bytes (length l.initial.out) (sets l.initial.out l.at (encs (event_of any_bytes any_bytes).enc (events_given l.rows l.bytes l.n 0))) l.out
    (8 * l.i) l.next (l.n - l.i)
