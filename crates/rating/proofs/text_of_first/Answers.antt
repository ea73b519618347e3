-- `text_of_first` meets its contract: the regions that are left lead to the answer.
use Prim.Native.Nat.{◌+◌, ◌-◌}
use mathlib.Core.Path.{◌≡◌, ◌∙◌}
use native.Mathlib.Omega.{arith}
use Rattle.rating.specs.Ratings.{region_size}
use Rattle.rating.proofs.FirstLaws.{first_none, first_past, first_here, first_next}
use Rattle.rating.proofs.text_of_first.Goals as goal

pub returns-in_err-next : goal.returns-in_err-next
returns-in_err-next c = let l = c.loop in
    c.from_residual.ensures
    ∙ (first_past _ _ _ l.at _ _ _ _ c.region_size.ensures.0 (c.args.n - l.counter) (omega (arith, c.in_err-next.ensures)) ∙ l.invariant)

pub overflow_add-result : goal.overflow_add-result
unfolding region_size
overflow_add-result c = omega (arith, c.in_ok-next.ensures)

pub overflow_add-result-then-byte-region : goal.overflow_add-result-then-byte-region
unfolding region_size
overflow_add-result-then-byte-region c = omega (arith, c.in_ok-next.ensures)

pub returns-then-byte-region : goal.returns-then-byte-region
returns-then-byte-region c = let l = c.loop in
    rw (c.ahead.ensures.0, c.rated_size-rated.ensures.0)
    (first_here _ _ _ l.at _ _ _ _ c.region_size.ensures.0 _ c.byte.ensures.0
    c.in_ok-next.ensures.0 (c.args.n - l.counter) (omega arith) c.if-byte-region.true ∙ l.invariant)

pub loop-preserved : goal.loop-preserved
loop-preserved c = let l = c.loop in
    let e : c.args.n - (l.counter + 1) ≡ c.args.n - l.counter - 1 = omega arith in
    rw (c.in_ok-next.ensures.1, e)
    (first_next _ _ _ l.at _ _ _ _ c.region_size.ensures.0 _ c.byte.ensures.0
    c.in_ok-next.ensures.0 (c.args.n - l.counter) (omega arith) c.if-byte-region.false ∙ l.invariant)

pub returns : goal.returns
returns c = first_none _ _ _ _ _ _ _ (c.args.n - c.loop.counter) (omega arith) ∙ c.loop.invariant
