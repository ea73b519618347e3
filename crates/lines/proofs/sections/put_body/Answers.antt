-- `put_body` meets its contract.
use Rattle.lines.proofs.EventLaws.{section_events, events_rest, other_rest}
use Rattle.lines.proofs.sections.put_body.Goals as goal

pub put_eit-requires : goal.put_eit-requires
put_eit-requires c = section_events _ _ _ c.requires c.in-Eit.is c.body_start.ensures.0

pub returns-in-Eit : goal.returns-in-Eit
returns-in-Eit c =
    rw (events_rest _ _ _ c.in-Eit.is c.body_start.ensures.0) at c.put_eit.ensures

pub returns-in_default : goal.returns-in_default
returns-in_default c = rw (other_rest c.args.s.now c.args.h.kind c.in_default.not-Eit) at c.put_all.ensures
