-- `put_head` meets its contract.
use native.Mathlib.Omega.{arith}
use Rattle.eit.proofs.GivenLaws.{row_room}
use Rattle.eit.proofs.WriteLaws.{head_put}
use borrow.Author.Rules.{rules}
use Rattle.eit.proofs.write.put_head.Goals as goal

pub put_number-requires : goal.put_number-requires
put_number-requires c =
    let r = row_room _ _ c.requires.1.0 in
    (omega arith, (search rules, omega (arith, c.number_at.ensures.0, r.id)))

pub put_number-requires-3 : goal.put_number-requires-3
put_number-requires-3 c =
    let r = row_room _ _ c.requires.1.0 in
    (omega arith, (search rules, omega (arith, c.number_at-3.ensures.0, c.number_at-4.ensures.0, r.etm, r.seconds)))

pub returns : goal.returns
returns c =
    let r = row_room _ _ c.requires.1.0 in
    head_put _ _ r _ _ c.number_at.ensures.0 c.number_at-2.ensures.0 c.number_at-3.ensures.0
    c.number_at-4.ensures.0 c.put_number.ensures c.put_number-2.ensures c.put_number-3.ensures
