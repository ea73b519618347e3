-- `count_values` meets its contract: the values of the dimensions that are left make up the count.
use Prim.Native.Nat.{◌+◌, ◌-◌}
use mathlib.Core.Path.{◌≡◌}
use native.Mathlib.Omega.{arith}
use Rattle.rows.proofs.RowsLaws.{dimension_stands}
use Rattle.rows.proofs.ValuesLaws.{dimensions_step, count_step, count_none}
use Rattle.rows.proofs.values.count_values.Goals as goal

pub dimension_end-d-requires : goal.dimension_end-d-requires
dimension_end-d-requires c = dimension_stands _ _ _ (omega (arith, c.loop-test.true)) c.loop.invariant.0

pub loop-preserved : goal.loop-preserved
loop-preserved c =
    let v = c.values-count.ensures in
    let t = c.loop-test.true in
    let l = c.loop.invariant in
    let n = c.args.n - c.loop.counter in
    let e = count_step c.args.s.now n c.loop.d (omega (arith, t)) in
    let k : c.args.n - (c.loop.counter + 1) ≡ n - 1 = omega arith in
    rw (k, c.dimension_end-d.ensures) (dimensions_step _ _ _ (omega (arith, t)) l.0, (omega (arith, e, v.0, l.1.0), omega (arith, v.1, l.1.1, t)))

pub returns : goal.returns
returns c =
    let l = c.loop in
    let n = c.args.n - l.counter in
    let e = count_none c.args.s.now n l.d (omega (arith, c.loop-test.false)) in
    (omega (arith, e, l.invariant.1.0), omega (arith, l.invariant.1.1, c.requires.0))
