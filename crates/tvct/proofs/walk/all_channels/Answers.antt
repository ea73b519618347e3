-- `all_channels` meets its contract.
use mathlib.Core.Path.{sym, ◌∙◌}
use Rattle.format.proofs.FieldLaws.{skip_field}
use Rattle.tvct.specs.Walked.{channels}
use Rattle.bytes_at.proofs.WalkLaws.{exit, seq_to}
use Rattle.tvct.proofs.walk.all_channels.Goals as goal

pub returns-in_err-b : goal.returns-in_err-b
unfolding channels
returns-in_err-b c = exit _ c.from_residual.ensures.1 (c.skip.ensures ∙ sym (skip_field 1 _ _)) c.in_err-b.was

pub returns : goal.returns
unfolding channels
returns c = seq_to _ (c.skip.ensures ∙ sym (skip_field 1 _ _)) c.in_ok-b.was (rw c.back.ensures.0 at c.past.ensures)
