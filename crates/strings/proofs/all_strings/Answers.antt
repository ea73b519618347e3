-- `all_strings` meets its contract.
use mathlib.Core.Path.{sym, ◌∙◌}
use Rattle.format.proofs.FieldLaws.{skip_field}
use Rattle.bytes_at.proofs.WalkLaws.{exit, seq_to}
use Rattle.strings.specs.Strings.{structure}
use Rattle.strings.proofs.all_strings.Goals as goal

pub returns-in_err-b : goal.returns-in_err-b
unfolding structure
returns-in_err-b c = exit _ c.from_residual.ensures.1 (c.skip.ensures ∙ sym (skip_field 1 _ _)) c.in_err-b.was

pub returns : goal.returns
unfolding structure
returns c = seq_to _ (c.skip.ensures ∙ sym (skip_field 1 _ _)) c.in_ok-b.was (rw c.back.ensures.0 at c.strings.ensures)
