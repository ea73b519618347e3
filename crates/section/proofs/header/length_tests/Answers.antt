-- `length_tests` meets its contract: the tests 3, 4 and 5 in this order, then the others.
use native.Mathlib.Omega.{arith}
use Rattle.section.proofs.TestLaws.{no_syntax, no_private, too_small, too_large, other_count, lengths_pass}
use Rattle.section.proofs.header.length_tests.Goals as goal

pub returns-then-flags-eq0 : goal.returns-then-flags-eq0
returns-then-flags-eq0 c = no_syntax _ _ _ (omega arith)

pub returns-then-flags-eq0-2 : goal.returns-then-flags-eq0-2
returns-then-flags-eq0-2 c = no_private _ _ _ (λ e. omega arith) (omega arith)

pub returns-then-length-limits : goal.returns-then-length-limits
returns-then-length-limits c = too_small _ _ _ (λ e. omega arith) (λ e. omega arith) (omega arith)

pub returns-then-limits-length : goal.returns-then-limits-length
returns-then-limits-length c = too_large _ _ _ (λ e. omega arith) (λ e. omega arith) (omega arith) (omega arith)

pub returns-then-s-length : goal.returns-then-s-length
returns-then-s-length c = other_count _ _ _ (λ e. omega arith) (λ e. omega arith) (omega arith) (omega arith) (λ e. c.if-s-length.true (omega (arith, e)))

pub returns : goal.returns
returns c = lengths_pass _ _ _ (λ e. omega arith) (λ e. omega arith) (omega arith) (omega arith) (omega arith) c.checksum_test.ensures
