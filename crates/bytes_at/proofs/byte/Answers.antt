-- `byte` meets its contract: a byte of the slice is below 256, and past the end it is 0.
use Rattle.bytes_at.proofs.FieldLaws.{past}
use Rattle.bytes_at.proofs.BitLaws.{byte_is, byte_past}
use mathlib.Core.Path.{refl, sym}
use native.Mathlib.Omega.{arith}
use Rattle.bytes_at.proofs.byte.Goals as goal

pub returns-then-i-s : goal.returns-then-i-s
returns-then-i-s c =
    let a = c.args in
    let h = c.shared_slice_known-1.given a.i in
    (refl, (omega (arith, h), byte_is a.s.now a.i _ refl (omega (arith, h))))

pub returns-else-i-s : goal.returns-else-i-s
returns-else-i-s c = let a = c.args in (sym (past a.s.now a.i c.if-i-s.false), (omega arith, byte_past a.s.now a.i c.if-i-s.false))
