-- `checksum::shift` meets its contract: the top bit says whether the polynomial is taken up.
-- Assumes nothing.
use mathlib.Core.Path.{◌≡◌, ap}
use Prim.Native.Nat.{ℕ, ◌+◌, ◌*◌, ◌/◌, ◌%◌, ◌^◌}
use native.Mathlib.Omega.{arith}
use lib.Bits.{bit_xor}
use Rattle.checksum.specs.Register.{poly, bit_in}
use Rattle.checksum.proofs.Steps.{bit_low}
use Rattle.checksum.proofs.shift.Goals as goal

pub returns-then-r-lt2147483648 : goal.returns-then-r-lt2147483648
returns-then-r-lt2147483648 c = omega (arith, bit_low c.args.r c.if-r-lt2147483648.true)

pub returns-else-r-lt2147483648 : goal.returns-else-r-lt2147483648
unfolding bit_in poly
returns-else-r-lt2147483648 c =
    let r = c.args.r in
    let e : 1 ≡ (r / 2 ^ 31 + 0) % 2 = omega arith in
    ap (λ (b : ℕ). bit_xor (r * 2 % 2 ^ 32) (poly * b)) e
