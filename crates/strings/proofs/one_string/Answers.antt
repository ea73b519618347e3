-- `one_string` meets its contract.
use mathlib.Core.List.{[], ◌∷◌}
use mathlib.Core.Path.{◌∙◌}
use Rattle.format.proofs.FieldLaws.{pad}
use Rattle.bytes_at.proofs.WalkLaws.{exit, seq_to}
use Rattle.strings.specs.Strings.{string}
use Rattle.strings.proofs.one_string.Goals as goal

pub returns-in_err-b : goal.returns-in_err-b
unfolding string
returns-in_err-b c = exit _ c.from_residual.ensures.1 (c.skip_fields.ensures ∙ pad 24 (8 ∷ []) 2 _ _) c.in_err-b.was

pub returns : goal.returns
unfolding string
returns c = seq_to _ (c.skip_fields.ensures ∙ pad 24 (8 ∷ []) 2 _ _) c.in_ok-b.was (rw c.back.ensures.0 at c.segments.ensures)
