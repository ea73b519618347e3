-- `rating_in` meets its contract: at every turn, what is found from here on is the whole answer.
use Prim.Native.Nat.{ℕ, ◌+◌, ◌-◌, ◌*◌, ◌%◌}
use mathlib.Core.Path.{◌≡◌, refl, ◌∙◌}
use native.Mathlib.Nat.{add-zero}
use native.Mathlib.Omega.{arith}
use Rattle.rating.specs.Ratings.{rating_in}
use Rattle.rating.proofs.FirstLaws.{dimensions_fit, first_none, first_past, first_here, first_next}
use Rattle.rating.proofs.rating_in.Goals as goal

-- before the first turn all are left, and behind a turn one less
all_left : (n : ℕ) → n - 0 ≡ n
all_left n = omega arith

one_less : (n i : ℕ) → n - (i + 1) ≡ n - i - 1
one_less n i = omega arith

pub search-init : goal.search-init
unfolding rating_in
search-init c = (c.args.end, (omega arith, refl))

pub loop-init : goal.loop-init
loop-init c = let o = c.search in
    rw (all_left, c.ahead-regions.ensures.0, c.in-Some.ensures.1, c.descriptor_size.ensures.0)
    (first_here _ _ _ o.at _ _ _ _ c.descriptor_size.ensures.0 _ c.byte.ensures.0
    c.in-Some.ensures.0 o.invariant.0 (omega (arith, o.invariant.1.0, c.in-Some.ensures)) c.if-byte-eq-CONTENT_ADVISORY.true ∙ o.invariant.1.1)

pub loop-i-init : goal.loop-i-init
loop-i-init c = let l = c.loop in
    rw (all_left, add-zero, c.byte-dimensions.ensures.0)
    (first_here _ _ _ l.p _ _ _ _ c.region_size.ensures.0 _ c.byte-in-loop.ensures.0
    c.in-Some-behind.ensures.0 (c.ahead-regions.result % 64 - l.counter) (omega arith) c.if-byte-region.true ∙ l.invariant)

pub loop-i-preserved : goal.loop-i-preserved
loop-i-preserved c = let l = c.loop-i in
    let n = c.byte-dimensions.result in
    let q : c.loop.p + 2 + 2 * (l.i + 1) ≡ c.loop.p + 2 + 2 * l.i + 2 = omega arith in
    rw (q, one_less n l.i)
    (first_next _ _ _ (c.loop.p + 2 + 2 * l.i) _ _ _ 2 refl _ c.byte-in-loop-i.ensures.0
    (omega (arith, dimensions_fit _ c.loop.p _ c.byte-dimensions.ensures.0)) (n - l.i) (omega arith) c.if-byte-dimension.false ∙ l.invariant)

pub loop-preserved : goal.loop-preserved
loop-preserved c = let l = c.loop in
    let n = c.ahead-regions.result % 64 in
    rw (c.in-Some-behind.ensures.1, one_less n l.counter)
    (first_next _ _ _ l.p _ _ _ _ c.region_size.ensures.0 _ c.byte-in-loop.ensures.0
    c.in-Some-behind.ensures.0 (n - l.counter) (omega arith) c.if-byte-region.false ∙ l.invariant)

pub search-preserved : goal.search-preserved
search-preserved c = let o = c.search in
    rw c.in-Some.ensures.1 (
      o.invariant.0 - 1,
      (
        omega (arith, o.invariant.1.0),
        first_next _ _ _ o.at _ _ _ _ c.descriptor_size.ensures.0 _ c.byte.ensures.0
            c.in-Some.ensures.0 o.invariant.0 (omega (arith, o.invariant.1.0, c.in-Some.ensures)) c.if-byte-eq-CONTENT_ADVISORY.false ∙ o.invariant.1.1,
      ),
    )

pub returns-in_default : goal.returns-in_default
returns-in_default c = let o = c.search in
    first_past _ _ _ o.at _ _ _ _ c.descriptor_size.ensures.0 o.invariant.0 (omega (arith, c.in_default.ensures)) ∙ o.invariant.1.1

pub returns-then-byte-dimension : goal.returns-then-byte-dimension
returns-then-byte-dimension c = let l = c.loop-i in
    rw c.byte-then-byte-dimension.ensures.0
    (first_here _ _ _ (c.loop.p + 2 + 2 * l.i) _ _ _ 2 refl _ c.byte-in-loop-i.ensures.0
    (omega (arith, dimensions_fit _ c.loop.p _ c.byte-dimensions.ensures.0)) (c.byte-dimensions.result - l.i) (omega arith) c.if-byte-dimension.true ∙ l.invariant)

pub returns-after-loop-i : goal.returns-after-loop-i
returns-after-loop-i c = first_none _ _ _ _ _ _ _ (c.byte-dimensions.result - c.loop-i.i) (omega arith) ∙ c.loop-i.invariant

pub returns-after-loop : goal.returns-after-loop
returns-after-loop c = first_none _ _ _ _ _ _ _ (c.ahead-regions.result % 64 - c.loop.counter) (omega arith) ∙ c.loop.invariant

pub returns-in_default-behind : goal.returns-in_default-behind
returns-in_default-behind c = let l = c.loop in
    first_past _ _ _ l.p _ _ _ _ c.region_size.ensures.0 (c.ahead-regions.result % 64 - l.counter) (omega (arith, c.in_default-behind.ensures)) ∙ l.invariant
