-- `put_event` meets its contract: the head, the title, the descriptors.
use native.Mathlib.Omega.{arith}
use Rattle.eit.proofs.WriteLaws.{row_placed, event_put, event_next}
use Rattle.eit.proofs.write.put_event.Goals as goal

pub put_title-requires : goal.put_title-requires
put_title-requires c =
    let p = row_placed _ _ _ _ _ c.requires.0 c.requires.1 c.title_given-t.ensures.0 c.list_given-d.ensures.0 in
    (p.title, omega (arith, p.room))

pub put_list-requires : goal.put_list-requires
put_list-requires c =
    let p = row_placed _ _ _ _ _ c.requires.0 c.requires.1 c.title_given-t.ensures.0 c.list_given-d.ensures.0 in
    (p.list, omega (arith, p.room))

pub returns : goal.returns
returns c =
    let r = c.requires.0 in
    let t = c.title_given-t.ensures.0 in
    let d = c.list_given-d.ensures.0 in
    record { puts = event_put _ _ _ r _ _ t d c.put_head.ensures c.put_title.ensures c.put_list.ensures; next = event_next _ _ _ r _ t d }
