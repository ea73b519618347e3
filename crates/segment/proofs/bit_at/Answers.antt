-- `segment::bit_at` meets its contract.
use mathlib.Core.Path.{ap, sym, ◌∙◌}
use Prim.Native.Nat.{ℕ, ◌-◌, ◌/◌, ◌%◌, ◌^◌}
use native.Mathlib.Omega.{arith}
use Rattle.segment.proofs.BitLaws.{bit_at}
use Rattle.segment.proofs.bit_at.Goals as goal

pub returns : goal.returns
returns c =
    let a = c.args in
    (ap (λ (x : ℕ). x / 2 ^ (7 - a.i % 8) % 2) c.byte.ensures.0 ∙ sym (bit_at a.s.now a.i), omega arith)
