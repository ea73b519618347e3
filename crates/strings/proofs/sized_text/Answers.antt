-- `sized_text` meets its contract.
use mathlib.Core.Path.{sym, ◌∙◌}
use Rattle.format.proofs.FieldLaws.{skip_field}
use Rattle.bytes_at.proofs.WalkLaws.{exit, seq_to}
use Rattle.strings.specs.Strings.{sized_text}
use Rattle.strings.proofs.sized_text.Goals as goal

pub returns-in_err-b : goal.returns-in_err-b
unfolding sized_text
returns-in_err-b c = exit _ c.from_residual.ensures.1 (c.skip.ensures ∙ sym (skip_field 1 _ _)) c.in_err-b.was

pub returns-in_err-e : goal.returns-in_err-e
unfolding sized_text
returns-in_err-e c = seq_to _ (c.skip.ensures ∙ sym (skip_field 1 _ _)) c.in_ok-b.was
    (exit _ c.from_residual-in_err-e.ensures.1 (rw c.back.ensures.0 at c.skip-2.ensures) c.in_err-e.was)

pub returns : goal.returns
unfolding sized_text
returns c = seq_to _ (c.skip.ensures ∙ sym (skip_field 1 _ _)) c.in_ok-b.was
    (seq_to _ (rw c.back.ensures.0 at c.skip-2.ensures) c.in_ok-e.was c.whole_text.ensures)
