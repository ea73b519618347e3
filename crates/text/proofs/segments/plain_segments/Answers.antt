-- `plain_segments` meets its contract: what is left of the units leads to the answer.
use Rattle.text.proofs.JoinLaws.{segment_ends, of_none, of_bad, of_on, going_first, wrote_few, going_refused, going_done, going_stop, going_on}
use Rattle.text.proofs.AmountLaws.{none_joined, told_as, handed}
use Rattle.text.specs.Inner.{plain_units, joined_plain}
use Rattle.bytes_at.proofs.WalkLaws.{standing_is}
use native.Mathlib.Omega.{arith}
use Prim.Native.Nat.{ℕ, ◌+◌, ◌-◌}
use mathlib.Core.Path.{ap}
use Rattle.text.proofs.segments.plain_segments.Goals as goal

pub loop-init : goal.loop-init
loop-init c = let a = c.args in going_first _ _ _ (ap (λ (k : ℕ). joined_plain a.s.now a.end k a.from) (omega arith))

pub returns-in_err-b : goal.returns-in_err-b
returns-in_err-b c =
    let q = c.loop in
    let a = c.args in
    let w = told_as c.past_segment.ensures c.in_err-b.was in
    going_refused q.invariant _ _ (handed c.from_residual.ensures.1)
    (of_bad (plain_units a.s.now) a.s.now a.end (a.m - q.counter) (a.m - (q.counter + 1)) q.at (omega arith) _ w)

pub plain_at-requires : goal.plain_at-requires
plain_at-requires c =
    let w = standing_is _ _ (told_as c.past_segment.ensures c.in_ok-b.was) in
    omega (arith, segment_ends c.args.s.now c.args.end c.loop.at _ w)

pub returns-in_err-k : goal.returns-in_err-k
returns-in_err-k c =
    let q = c.loop in
    let a = c.args in
    let w = told_as c.past_segment.ensures c.in_ok-b.was in
    let j = of_on (plain_units a.s.now) a.s.now a.end (a.m - q.counter) (a.m - (q.counter + 1)) q.at (omega arith) _ w in
    going_stop q.invariant _ _ _ j _ _ (handed c.from_residual-in_err-k.ensures.1) c.plain_at.ensures c.in_err-k.was

pub overflow_add-n : goal.overflow_add-n
overflow_add-n c = omega (arith, wrote_few _ c.plain_at.ensures c.in_ok-k.was, c.loop.invariant.few, c.requires)

pub loop-preserved : goal.loop-preserved
loop-preserved c =
    let q = c.loop in
    let a = c.args in
    let w = told_as c.past_segment.ensures c.in_ok-b.was in
    let j = of_on (plain_units a.s.now) a.s.now a.end (a.m - q.counter) (a.m - (q.counter + 1)) q.at (omega arith) _ w in
    going_on q.invariant _ _ _ j _ _ c.plain_at.ensures c.in_ok-k.was

pub returns : goal.returns
returns c =
    let q = c.loop in
    let a = c.args in
    going_done q.invariant _ (none_joined a.s.now a.end a.m a.from) (of_none (plain_units a.s.now) a.s.now a.end (a.m - q.counter) q.at (omega arith))
