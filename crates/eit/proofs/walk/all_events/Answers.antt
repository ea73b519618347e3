-- `all_events` meets its contract.
use mathlib.Core.Path.{sym, ◌∙◌}
use Rattle.format.proofs.FieldLaws.{skip_field}
use Rattle.eit.specs.Walked.{events}
use Rattle.bytes_at.proofs.WalkLaws.{exit, seq_to}
use Rattle.eit.proofs.walk.all_events.Goals as goal

pub returns-in_err-b : goal.returns-in_err-b
unfolding events
returns-in_err-b c = exit _ c.from_residual.ensures.1 (c.skip.ensures ∙ sym (skip_field 1 _ _)) c.in_err-b.was

pub returns : goal.returns
unfolding events
returns c = seq_to _ (c.skip.ensures ∙ sym (skip_field 1 _ _)) c.in_ok-b.was (rw c.back.ensures.0 at c.past.ensures)
