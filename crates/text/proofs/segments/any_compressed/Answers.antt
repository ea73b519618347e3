-- `any_compressed` meets its contract: where the segments that are left are plain, all are.
use Rattle.text.proofs.JoinLaws.{segment_ends, of_none, of_bad, units_none, units_bad, all_plain}
use Rattle.text.proofs.AmountLaws.{told_as}
use Rattle.text.specs.Inner.{plain_units, joined_plain}
use Rattle.text.specs.Strings.{joined_units}
use Rattle.bytes_at.proofs.WalkLaws.{standing_is}
use Prim.Native.Nat.{ℕ, suc, ◌+◌, ◌-◌}
use native.Mathlib.Omega.{arith}
use mathlib.Core.Path.{◌≡◌, subst, sym, ◌∙◌}
use Rattle.text.proofs.segments.any_compressed.Goals as goal

pub loop-init : goal.loop-init
loop-init c =
    let a = c.args in
    subst (λ (k : ℕ). joined_plain a.s.now a.end k a.from ≡ joined_units a.s.now a.end k a.from) (omega arith)

pub returns-in_default : goal.returns-in_default
returns-in_default c =
    let q = c.loop in
    let a = c.args in
    let h : a.m - q.counter ≡ suc (a.m - (q.counter + 1)) = omega arith in
    let w = told_as c.past_segment.ensures c.in_default.is in
    λ z. q.invariant (of_bad (plain_units a.s.now) a.s.now a.end _ _ q.at h _ w ∙ sym (units_bad a.s.now a.end _ _ q.at h _ w))

pub compressed_at-requires : goal.compressed_at-requires
compressed_at-requires c =
    let w = standing_is _ _ (told_as c.past_segment.ensures c.in-Ok.is) in
    omega (arith, segment_ends c.args.s.now c.args.end c.loop.at _ w)

pub loop-preserved : goal.loop-preserved
loop-preserved c =
    let q = c.loop in
    let a = c.args in
    let w = told_as c.past_segment.ensures c.in-Ok.is in
    λ e. q.invariant (all_plain a.s.now a.end (a.m - q.counter) (a.m - (q.counter + 1)) q.at (omega arith) _ w (c.compressed_at.ensures c.if-compressed_at.false) e)

pub returns : goal.returns
returns c =
    let q = c.loop in
    let a = c.args in
    let h : a.m - q.counter ≡ 0 = omega arith in
    λ z. q.invariant (of_none (plain_units a.s.now) a.s.now a.end _ q.at h ∙ sym (units_none a.s.now a.end _ q.at h))
