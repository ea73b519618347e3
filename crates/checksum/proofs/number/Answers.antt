-- `checksum::number` meets its contract: its bytes are those that it was made of.
-- Assumes nothing.
use mathlib.Core.Path.{◌≡◌, ap, ◌∙◌}
use Prim.Native.Nat.{◌+◌, ◌*◌, ◌%◌, ◌^◌}
use native.Mathlib.Omega.{arith}
use Rattle.checksum.specs.Register.{four_bytes}
use Rattle.checksum.proofs.Words.{number}
use Rattle.checksum.proofs.number.Goals as goal

pub returns : goal.returns
returns c =
    let a = c.args in
    let e : a.x0 * 2 ^ 24 % 2 ^ 64 + a.x1 * 2 ^ 16 % 2 ^ 64 + a.x2 * 2 ^ 8 % 2 ^ 64 + a.x3 ≡ a.x0 * 2 ^ 24 + a.x1 * 2 ^ 16 + a.x2 * 2 ^ 8 + a.x3 = omega arith in
    (omega arith, ap four_bytes e ∙ number a.x0 a.x1 a.x2 a.x3 (omega arith) (omega arith) (omega arith) (omega arith))
