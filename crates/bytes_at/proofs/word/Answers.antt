-- `word` meets its contract.
use Rattle.bytes_at.proofs.FieldLaws.{past}
use Rattle.bytes_at.proofs.BitLaws.{word_is, word_past}
use Prim.Native.Nat.{◌+◌}
use native.Mathlib.Omega.{arith}
use borrow.Author.Rules.{rules}
use Rattle.bytes_at.proofs.word.Goals as goal

pub returns-then-i-s : goal.returns-then-i-s
returns-then-i-s c = (search rules, (search rules, word_is _ _ _ _ c.byte.ensures.1.1 c.byte-then-i-s.ensures.1.1))

pub returns-else-i-s : goal.returns-else-i-s
returns-else-i-s c = let a = c.args in
    (omega (arith, past a.s.now a.i (omega arith), past a.s.now (a.i + 1) (omega arith)), (omega arith, word_past a.s.now a.i (omega arith)))
