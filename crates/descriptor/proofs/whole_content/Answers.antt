-- `whole_content` meets its contract.
use borrow.Author.Tests.{eq-eqb, ne_eqb}
use Rattle.bytes_at.proofs.WalkLaws.{exit, seq_to}
use Rattle.descriptor.specs.Descriptors.{content}
use Rattle.descriptor.proofs.whole_content.Goals as goal

pub returns-in_err-b : goal.returns-in_err-b
unfolding content
returns-in_err-b c = rw (eq-eqb _ _ c.if-judged-tag.true) (exit _ c.from_residual.ensures.1 c.all_regions.ensures c.in_err-b.was)

pub returns-in_ok-b : goal.returns-in_ok-b
unfolding content
returns-in_ok-b c = rw (eq-eqb _ _ c.if-judged-tag.true) (seq_to _ c.all_regions.ensures c.in_ok-b.was c.at_end.ensures)

pub returns-else-judged-tag : goal.returns-else-judged-tag
unfolding content
returns-else-judged-tag c = rw (ne_eqb _ _ c.if-judged-tag.false)
