-- `advisory_text_in` meets its contract: what is found from here on is the whole answer.
use Prim.Native.Nat.{◌-◌}
use mathlib.Core.Path.{refl, ◌∙◌}
use native.Mathlib.Omega.{arith}
use Rattle.std.specs.Prelude.{None}
use Rattle.rating.specs.Ratings.{region_in, region_text_at, text_in}
use Rattle.rating.proofs.FirstLaws.{first_past, first_here, first_next}
use Rattle.rating.proofs.advisory_text_in.Goals as goal

pub loop-close-init : goal.loop-close-init
unfolding text_in
loop-close-init c = (c.args.end, (omega arith, refl))

pub returns-in_err-close : goal.returns-in_err-close
returns-in_err-close c = let o = c.loop-close in
    c.from_residual.ensures
    ∙ (first_past _ _ _ o.at _ _ _ _ c.descriptor_size.ensures.0 o.invariant.0 (omega (arith, c.in_err-close.ensures)) ∙ o.invariant.1.1)

pub returns-then-byte-eq-CONTENT_ADVISORY : goal.returns-then-byte-eq-CONTENT_ADVISORY
returns-then-byte-eq-CONTENT_ADVISORY c = let o = c.loop-close in
    ◌∙◌ {b = region_in c.args.s.now c.args.region o.at (region_text_at c.args.s.now) None}
    (rw (c.ahead.ensures.0, c.in_ok-close.ensures.1, c.descriptor_size.ensures.0) at c.text_of_first.ensures)
    (first_here _ _ _ o.at _ _ _ _ c.descriptor_size.ensures.0 _ c.byte.ensures.0
    c.in_ok-close.ensures.0 o.invariant.0 (omega (arith, o.invariant.1.0, c.in_ok-close.ensures)) c.if-byte-eq-CONTENT_ADVISORY.true
    ∙ o.invariant.1.1)

pub loop-close-preserved : goal.loop-close-preserved
loop-close-preserved c = let o = c.loop-close in
    rw c.in_ok-close.ensures.1 (
      o.invariant.0 - 1,
      (
        omega (arith, o.invariant.1.0),
        first_next _ _ _ o.at _ _ _ _ c.descriptor_size.ensures.0 _ c.byte.ensures.0
            c.in_ok-close.ensures.0 o.invariant.0 (omega (arith, o.invariant.1.0, c.in_ok-close.ensures)) c.if-byte-eq-CONTENT_ADVISORY.false ∙ o.invariant.1.1,
      ),
    )
