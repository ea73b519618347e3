-- `put_values` meets its contract: the rows that are left lead to the answer.
use native.Mathlib.Omega.{arith}
use Rattle.rrt.proofs.EndLaws.{values_step}
use Rattle.rows.proofs.ValuesLaws.{values_room, values_next, values_done}
use Rattle.rows.proofs.values.put_values.Goals as goal

pub put_value-a-requires : goal.put_value-a-requires
put_value-a-requires c =
    let l = c.loop-j.invariant in
    let r = c.requires in
    let t = c.loop-j-test.true in (
      ((r.0.0.0, omega (arith, t, r.0.0.1)), ((values_step _ _ _ (omega (arith, t)) l.stand).0, r.0.1.1)),
      values_room _ _ _ _ _ _ _ _ _ _ l (omega (arith, t)),
    )

pub loop-j-preserved : goal.loop-j-preserved
loop-j-preserved c =
    let l = c.loop-j.invariant in
    let t = c.loop-j-test.true in
    let q = c.put_value-a.ensures in
    values_next _ _ _ _ _ _ _ _ _ _ l _ _ _ (omega (arith, t)) q.puts q.next (omega (arith, t))

pub returns : goal.returns
returns c = let ends = values_done _ _ _ _ _ _ _ _ _ _ c.loop-j.invariant (omega (arith, c.loop-j-test.false)) in record { next = ends.0; puts = ends.1 }
