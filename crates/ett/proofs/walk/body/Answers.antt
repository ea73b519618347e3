-- `body` meets its contract.
use mathlib.Core.Path.{sym, ◌∙◌}
use Rattle.format.proofs.FieldLaws.{skip_field}
use Rattle.ett.specs.Walked.{ett}
use Rattle.bytes_at.proofs.WalkLaws.{exit, seq_to}
use Rattle.ett.proofs.walk.body.Goals as goal

pub returns-in_err-b : goal.returns-in_err-b
unfolding ett
returns-in_err-b c = exit _ c.from_residual.ensures.1 (c.skip.ensures ∙ sym (skip_field 4 _ _)) c.in_err-b.was

pub returns-in_err-e : goal.returns-in_err-e
unfolding ett
returns-in_err-e c = seq_to _ (c.skip.ensures ∙ sym (skip_field 4 _ _)) c.in_ok-b.was
    (exit _ c.from_residual-in_err-e.ensures.1 c.all_strings.ensures c.in_err-e.was)

pub returns : goal.returns
unfolding ett
returns c = seq_to _ (c.skip.ensures ∙ sym (skip_field 4 _ _)) c.in_ok-b.was
    (seq_to _ c.all_strings.ensures c.in_ok-e.was c.at_end.ensures)
