-- `all_tables` meets its contract.
use mathlib.Core.Path.{sym, ◌∙◌}
use Rattle.format.proofs.FieldLaws.{skip_field}
use Rattle.mgt.specs.Walked.{tables}
use Rattle.bytes_at.proofs.WalkLaws.{exit, seq_to}
use Rattle.mgt.proofs.walk.all_tables.Goals as goal

pub returns-in_err-b : goal.returns-in_err-b
unfolding tables
returns-in_err-b c = exit _ c.from_residual.ensures.1 (c.skip.ensures ∙ sym (skip_field 2 _ _)) c.in_err-b.was

pub returns : goal.returns
unfolding tables
returns c = seq_to _ (c.skip.ensures ∙ sym (skip_field 2 _ _)) c.in_ok-b.was (rw c.word_back.ensures.0 at c.past.ensures)
