-- `values_end` meets its contract: the values that are left lead to the answer.
use Prim.Native.Nat.{◌+◌, ◌-◌}
use mathlib.Core.Path.{◌≡◌, ◌∙◌}
use native.Mathlib.Omega.{arith}
use Rattle.rrt.proofs.EndLaws.{values_step, values_more, values_none}
use Rattle.rrt.proofs.dimension.values_end.Goals as goal

pub value_end-a-requires : goal.value_end-a-requires
value_end-a-requires c = (values_step _ (c.args.n - c.loop.counter) _ (omega arith) c.loop.invariant.0).0

pub loop-preserved : goal.loop-preserved
loop-preserved c =
    let i = c.loop.invariant in
    let n = c.args.n - c.loop.counter in
    let e : c.args.n - (c.loop.counter + 1) ≡ n - 1 = omega arith in
    rw (c.value_end-a.ensures, e) ((values_step _ n _ (omega arith) i.0).1, values_more _ n _ (omega arith) ∙ i.1)

pub returns : goal.returns
returns c = values_none _ _ _ (omega arith) ∙ c.loop.invariant.1
