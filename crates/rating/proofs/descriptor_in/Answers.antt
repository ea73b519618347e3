-- `descriptor_in` meets its contract: what is left of the list has the descriptor of what is left of the number.
use Prim.Native.Nat.{◌+◌, ◌-◌}
use mathlib.Core.Path.{◌≡◌, ◌∙◌}
use native.Mathlib.Omega.{arith}
use Rattle.rating.proofs.FirstLaws.{none_past, descriptor_here, descriptor_next}
use Rattle.rating.proofs.descriptor_in.Goals as goal

pub returns-in_err-at : goal.returns-in_err-at
returns-in_err-at c =
    c.from_residual.ensures
    ∙ (none_past _ _ _ _ c.descriptor_size.ensures.0 (c.args.k - c.loop.counter) (omega (arith, c.in_err-at.ensures)) ∙ c.loop.invariant)

pub loop-preserved : goal.loop-preserved
loop-preserved c =
    let f = c.in_ok-at.ensures in
    let e : c.args.k - (c.loop.counter + 1) ≡ c.args.k - c.loop.counter - 1 = omega arith in
    rw (f.1, e) (descriptor_next _ _ _ _ c.descriptor_size.ensures.0 (c.args.k - c.loop.counter) (λ z. omega arith) f.0 ∙ c.loop.invariant)

pub returns-in_err-behind : goal.returns-in_err-behind
returns-in_err-behind c =
    c.from_residual-in_err-behind.ensures
    ∙ (none_past _ _ _ _ c.descriptor_size-2.ensures.0 (c.args.k - c.loop.counter) (omega (arith, c.in_err-behind.ensures)) ∙ c.loop.invariant)

pub returns : goal.returns
returns c =
    rw (c.byte.ensures.0, c.byte-2.ensures.0)
    (descriptor_here _ _ _ _ c.descriptor_size-2.ensures.0 (c.args.k - c.loop.counter) (omega arith) c.in_ok-behind.ensures.0 ∙ c.loop.invariant)
