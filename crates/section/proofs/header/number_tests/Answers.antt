-- `number_tests` meets its contract: 7 and 8 in this order, then the fields.
use mathlib.Core.Path.{◌∙◌}
use native.Mathlib.Omega.{arith}
use Rattle.section.proofs.TestLaws.{not_zero, above_last, last_too_large, numbers_pass}
use Rattle.section.proofs.header.number_tests.Goals as goal

pub returns-then-byte-ne0 : goal.returns-then-byte-ne0
returns-then-byte-ne0 c = not_zero _ _ _ (λ e. c.if-byte-ne0.true (c.byte.ensures.0 ∙ e))

pub returns-then-last-number : goal.returns-then-last-number
returns-then-last-number c = above_last _ _ _ (omega arith) (omega arith)

pub returns-then-limits-last : goal.returns-then-limits-last
returns-then-limits-last c = last_too_large _ _ _ (omega arith) (omega arith) (omega arith)

pub returns : goal.returns
returns c = numbers_pass _ _ _ (omega arith) (omega arith) (omega arith)
    (rw (c.word.ensures.0, c.byte-flags.ensures.0, c.byte-last.ensures.0, c.byte-number.ensures.0))
