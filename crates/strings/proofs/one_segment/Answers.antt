-- `one_segment` meets its contract.
use mathlib.Core.List.{[], ◌∷◌}
use mathlib.Core.Path.{◌∙◌}
use Rattle.format.proofs.FieldLaws.{pad}
use Rattle.bytes_at.proofs.WalkLaws.{exit, seq_to}
use Rattle.strings.specs.Strings.{segment}
use Rattle.strings.proofs.one_segment.Goals as goal

pub returns-in_err-b : goal.returns-in_err-b
unfolding segment
returns-in_err-b c = exit _ c.from_residual.ensures.1 (c.skip_fields.ensures ∙ pad 8 (8 ∷ 8 ∷ []) 1 _ _) c.in_err-b.was

pub returns : goal.returns
unfolding segment
returns c = seq_to _ (c.skip_fields.ensures ∙ pad 8 (8 ∷ 8 ∷ []) 1 _ _) c.in_ok-b.was (rw c.back.ensures.0 at c.skip.ensures)
