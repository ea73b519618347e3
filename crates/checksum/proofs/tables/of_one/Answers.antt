-- `tables::of_one` meets its contract.
-- Assumes nothing.
use mathlib.Core.Path.{◌≡◌, sym, ap, ◌∙◌}
use Prim.Native.Nat.{ℕ, ◌+◌, ◌*◌}
use native.Mathlib.Omega.{arith}
use Rattle.checksum.proofs.Steps.{zeros, zeros_none, zeros_zeros}
use Rattle.checksum.proofs.tables.of_one.Goals as goal

pub loop-init : goal.loop-init
loop-init g c = sym (zeros_none 1)

pub loop-preserved : goal.loop-preserved
loop-preserved g c =
    let k = c.loop.counter in
    let e : 8 * k + 8 ≡ 8 * (k + 1) = omega arith in
    c.byte_in-r.ensures ∙ ap (zeros 8) c.loop.invariant ∙ zeros_zeros 8 (8 * k) 1 ∙ ap (λ (n : ℕ). zeros n 1) e
