-- `repeated` meets its contract.
use mathlib.Core.Path.{◌≡◌, ap, ◌∙◌}
use Prim.Native.Nat.{ℕ, ◌+◌, ◌-◌}
use native.Mathlib.Omega.{arith}
use Rattle.bytes_at.specs.Walks.{many}
use Rattle.bytes_at.proofs.WalkLaws.{as_it_was, goes, many_go, many_bad, many_none}
use Rattle.bytes_at.proofs.repeated.Goals as goal

pub loop-init : goal.loop-init
loop-init g c = λ p h. ap (λ (k : ℕ). many p k c.args.from) (omega arith)

pub returns-in_err-at : goal.returns-in_err-at
returns-in_err-at g c = λ p h.
    as_it_was c.from_residual.ensures.1 c.in_err-at.was
    ∙ (many_bad p (c.args.n - c.loop.counter) c.loop.at _ _ (omega arith) (h _ _ c.step.ensures) c.in_err-at.was ∙ c.loop.invariant p h)

pub loop-preserved : goal.loop-preserved
loop-preserved g c = λ p h.
    let e : c.args.n - (c.loop.counter + 1) ≡ c.args.n - c.loop.counter - 1 = omega arith in
    ap (λ (k : ℕ). many p k c.in_ok-at.at) e
    ∙ (many_go p (c.args.n - c.loop.counter) c.loop.at _ (omega arith) (goes (h _ _ c.step.ensures) c.in_ok-at.was) ∙ c.loop.invariant p h)

pub returns : goal.returns
returns g c = λ p h. many_none p (c.args.n - c.loop.counter) _ (omega arith) ∙ c.loop.invariant p h
