-- `of_found` meets its contract: 2 where no kind is found, then the others.
use Rattle.section.specs.Headers.{of_kind}
use Rattle.section.proofs.header.of_found.Goals as goal

pub returns-in_default : goal.returns-in_default
unfolding of_kind
returns-in_default c = rw c.in_default.is

pub returns : goal.returns
unfolding of_kind
returns c = rw c.in-Some.is (rw c.limits.ensures at c.length_tests.ensures)
