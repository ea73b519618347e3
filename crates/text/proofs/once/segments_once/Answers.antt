-- `segments_once` meets its contract: what is left of the units leads to the answer, and a unit takes a bit or more.
use Rattle.text.proofs.JoinLaws.{units_none, units_bad, units_on, going_first}
use Rattle.text.proofs.FewLaws.{segment_end}
use Rattle.text.proofs.PassLaws.{once_few, onced_refused, onced_done, onced_stop, onced_on}
use Rattle.text.proofs.AmountLaws.{none_joined, told_as, handed}
use Rattle.text.specs.Strings.{joined_units}
use Rattle.bytes_at.proofs.WalkLaws.{standing_is}
use Prim.Native.Nat.{ℕ, ◌+◌, ◌-◌}
use native.Mathlib.Omega.{arith}
use mathlib.Core.Path.{ap}
use Rattle.text.proofs.once.segments_once.Goals as goal

pub loop-init : goal.loop-init
loop-init c =
    let a = c.args in
    (going_first _ _ _ (ap (λ (k : ℕ). joined_units a.s.now a.end k a.from) (omega arith)), omega arith, omega arith, omega arith)

pub returns-in_err-b : goal.returns-in_err-b
returns-in_err-b c =
    let q = c.loop in
    let a = c.args in
    let w = told_as c.past_segment.ensures c.in_err-b.was in
    onced_refused q.invariant.0 _ (handed c.from_residual.ensures.1) (units_bad a.s.now a.end (a.m - q.counter) (a.m - (q.counter + 1)) q.at (omega arith) _ w)

pub segment_once-requires : goal.segment_once-requires
segment_once-requires c =
    let q = c.loop in
    let z = segment_end c.args.s.now c.args.end q.at _ (standing_is _ _ (told_as c.past_segment.ensures c.in_ok-b.was)) in
    let p = c.requires in
    (omega (arith, z.0, z.1), omega (arith, z.0, z.1, p.1, q.invariant.1, q.invariant.2), omega (arith, z.0, z.1, p.1, q.invariant.1, q.invariant.2))

pub returns-in_err-k : goal.returns-in_err-k
returns-in_err-k c =
    let q = c.loop in
    let a = c.args in
    let w = told_as c.past_segment.ensures c.in_ok-b.was in
    let j = units_on a.s.now a.end (a.m - q.counter) (a.m - (q.counter + 1)) q.at (omega arith) _ w in
    onced_stop q.invariant.0 _ _ _ j _ c.segment_once.ensures _ (handed c.from_residual-in_err-k.ensures.1) c.in_err-k.was

pub overflow_add-n : goal.overflow_add-n
overflow_add-n c =
    let q = c.loop in
    let z = segment_end c.args.s.now c.args.end q.at _ (standing_is _ _ (told_as c.past_segment.ensures c.in_ok-b.was)) in
    omega (arith, once_few c.args.s.now q.at _ c.segment_once.ensures c.in_ok-k.was, z.0, z.1, c.requires.1, q.invariant.1, q.invariant.2)

pub loop-preserved : goal.loop-preserved
loop-preserved c =
    let q = c.loop in
    let a = c.args in
    let w = told_as c.past_segment.ensures c.in_ok-b.was in
    let z = segment_end a.s.now a.end q.at _ (standing_is _ _ w) in
    let p = c.requires in
    let k = once_few a.s.now q.at _ c.segment_once.ensures c.in_ok-k.was in
    let j = units_on a.s.now a.end (a.m - q.counter) (a.m - (q.counter + 1)) q.at (omega arith) _ w in (
      onced_on q.invariant.0 _ _ _ j _ c.segment_once.ensures _ c.in_ok-k.was (omega (arith, k, z.0, z.1, p.1, q.invariant.1, q.invariant.2)),
      omega (arith, z.0, q.invariant.1),
      omega (arith, k, z.0, q.invariant.1, q.invariant.2),
      omega (arith, k, z.0, z.1, p.1, q.invariant.1, q.invariant.2),
    )

pub returns : goal.returns
returns c =
    let q = c.loop in
    let a = c.args in
    onced_done q.invariant.0 _ (none_joined a.s.now a.end a.m a.from) q.invariant.3 (units_none a.s.now a.end (a.m - q.counter) q.at (omega arith))
