-- `step` meets its contract.
use mathlib.Core.Path.{refl, sym, ap, ◌∙◌}
use mathlib.Core.Bool.{true, false}
use Prim.Native.Nat.{ℕ, ◌+◌}
use native.Mathlib.Omega.{arith}
use Rattle.listing.specs.Steps.{full_step}
use Rattle.listing.proofs.StepLaws.{too_short, long_enough, tells, tells_over}
use Rattle.listing.proofs.step.Goals as goal

pub returns-then-held-size : goal.returns-then-held-size
returns-then-held-size c =
    let a = c.args in
    tells (too_short a.number _ a.input (omega (arith, c.if-held-size.true, c.to_come-size.ensures.0))) c.put_short.ensures

pub returns-then-is_whole : goal.returns-then-is_whole
unfolding full_step
returns-then-is_whole c =
    let size = c.to_come-size.ensures.0 in
    let a = c.args in
    tells
    (long_enough a.number a.held.now a.input true (omega (arith, c.if-held-size.false, size)) (sym c.is_whole.ensures ∙ c.if-is_whole.true))
    (record { puts = c.put_record.ensures; taken = ap (λ (k : ℕ). 7 + k) size; next = refl })

pub returns : goal.returns
unfolding full_step
returns c =
    let size = c.to_come-size.ensures.0 in
    let a = c.args in
    tells
    (long_enough a.number a.held.now a.input false (omega (arith, c.if-held-size.false, size)) (sym c.is_whole.ensures ∙ c.if-is_whole.false))
    (tells_over c.put_bad.ensures c.over.ensures)
