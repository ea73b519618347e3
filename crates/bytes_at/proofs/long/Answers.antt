-- `long` meets its contract.
use Rattle.bytes_at.proofs.FieldLaws.{past}
use Rattle.bytes_at.proofs.BitLaws.{long_is, long_past}
use Prim.Native.Nat.{◌+◌}
use native.Mathlib.Omega.{arith}
use borrow.Author.Rules.{rules}
use Rattle.bytes_at.proofs.long.Goals as goal

pub returns-then-i-s : goal.returns-then-i-s
returns-then-i-s c = (search rules, (search rules, long_is _ _ _ _ c.word.ensures.1.1 c.word-then-i-s.ensures.1.1))

pub returns-else-i-s : goal.returns-else-i-s
returns-else-i-s c = let a = c.args in
    let h = past a.s.now in (
      omega (arith, h a.i (omega arith), h (a.i + 1) (omega arith), h (a.i + 2) (omega arith), h (a.i + 2 + 1) (omega arith)),
      (omega arith, long_past a.s.now a.i (omega arith)),
    )
