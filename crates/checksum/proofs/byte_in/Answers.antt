-- `byte_in` meets its contract.
-- Assumes nothing.
use mathlib.Core.Path.{◌≡◌, sym, ap, ◌∙◌}
use Prim.Native.Nat.{ℕ, ◌-◌, ◌*◌, ◌%◌, ◌^◌}
use native.Mathlib.Omega.{arith}
use lib.Bits.{bit_xor}
use Rattle.checksum.proofs.Steps.{zeros, zeros_none, byte_zeros}
use Rattle.checksum.proofs.Turns.{zero_more}
use Rattle.checksum.proofs.byte_in.Goals as goal

pub loop-init : goal.loop-init
loop-init c =
    let x = c.args.x in
    let r = c.args.r in
    let e : x * 2 ^ 24 % 2 ^ 32 ≡ x % 256 * 2 ^ 24 = omega arith in
    ap (λ (y : ℕ). zeros 8 (bit_xor r y)) e ∙ sym (byte_zeros x r)

pub loop-preserved : goal.loop-preserved
loop-preserved c = zero_more 8 _ _ _ _ (omega arith) c.shift-q.ensures c.loop.invariant

pub returns : goal.returns
returns c =
    let l = c.loop in
    let e : 0 ≡ 8 - l.counter = omega arith in
    sym (zeros_none l.q) ∙ ap (λ (n : ℕ). zeros n l.q) e ∙ l.invariant
