-- `whole_text` meets its contract.
use borrow.Author.Tests.{eq-eqb, ne_eqb}
use Rattle.bytes_at.proofs.WalkLaws.{exit, seq_to}
use Rattle.strings.specs.Strings.{text}
use Rattle.strings.proofs.whole_text.Goals as goal

pub returns-then-at-end : goal.returns-then-at-end
unfolding text
returns-then-at-end c = rw (eq-eqb _ _ c.if-at-end.true)

pub returns-in_err-b : goal.returns-in_err-b
unfolding text
returns-in_err-b c = rw (ne_eqb _ _ c.if-at-end.false) (exit _ c.from_residual.ensures.1 c.all_strings.ensures c.in_err-b.was)

pub returns : goal.returns
unfolding text
returns c = rw (ne_eqb _ _ c.if-at-end.false) (seq_to _ c.all_strings.ensures c.in_ok-b.was c.at_end.ensures)
