-- `put_dimensions` meets its contract: the dimensions that are left lead to the answer.
use native.Mathlib.Omega.{arith}
use Rattle.rrt.proofs.EndLaws.{dimension_values}
use Rattle.rows.proofs.RowsLaws.{dimension_stands}
use Rattle.rows.proofs.ValuesLaws.{dimensions_room, dimensions_next, dimensions_done}
use Rattle.rows.proofs.values.put_dimensions.Goals as goal

pub put_values-d-requires : goal.put_values-d-requires
put_values-d-requires c =
    let v = c.values-size.ensures in
    let t = c.loop-i-test.true in
    let l = c.loop-i.invariant in
    let r = c.requires.0.0 in
    let d = dimension_stands _ _ _ (omega (arith, t)) l.entries in
    let room = dimensions_room _ _ _ _ _ _ _ _ l (omega (arith, t)) in (
      ((omega (arith, t, r), v.1), (rw (v.0, c.first_value.ensures) (dimension_values _ _ d), l.entries.small)),
      rw v.0 room,
    )

pub loop-i-preserved : goal.loop-i-preserved
loop-i-preserved c =
    let t = c.loop-i-test.true in
    let l = c.loop-i.invariant in
    dimensions_next _ _ _ _ _ _ _ _ l _ _ _ _ _ (omega (arith, t)) c.values-size.ensures.0 c.first_value.ensures
    c.put_values-d.ensures.puts c.put_values-d.ensures.next (omega (arith, t))

pub returns : goal.returns
returns c = dimensions_done _ _ _ _ _ _ _ _ c.loop-i.invariant (omega (arith, c.loop-i-test.false))
