-- `put_rows` meets its contract: the rows that are left lead to the answer.
use native.Mathlib.Omega.{arith}
use Rattle.rows.proofs.RowsLaws.{entries_first, rows_room, rows_next, rows_done}
use Rattle.rows.proofs.put_rows.Goals as goal

pub put_row-a-requires : goal.put_row-a-requires
put_row-a-requires c =
    let t = c.loop-test.true in
    let l = c.loop.invariant in
    (entries_first _ _ _ _ (omega (arith, t)) l.entries, rows_room _ _ _ _ _ _ _ _ l (omega (arith, t)))

pub loop-preserved : goal.loop-preserved
loop-preserved c =
    let t = c.loop-test.true in
    let q = c.put_row-a.ensures in
    rows_next _ _ _ _ _ _ _ _ c.loop.invariant _ _ _ _ (omega (arith, t)) q.puts q.next c.width_of-size.ensures.0 (omega (arith, t))

pub returns : goal.returns
returns c = rows_done _ _ _ _ _ _ _ _ c.loop.invariant (omega (arith, c.loop-test.false))
