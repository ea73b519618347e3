-- `one_rated` meets its contract.
use mathlib.Core.List.{[], ◌∷◌}
use mathlib.Core.Path.{◌∙◌}
use Rattle.format.proofs.FieldLaws.{pad}
use Rattle.bytes_at.proofs.WalkLaws.{exit, seq_to}
use Rattle.descriptor.specs.Descriptors.{rated, dimension}
use Rattle.descriptor.proofs.one_rated.Goals as goal

pub returns-in_err-b : goal.returns-in_err-b
unfolding rated
returns-in_err-b c = exit _ c.from_residual.ensures.1 (c.skip_fields.ensures ∙ pad 8 (8 ∷ []) 2 _ _) c.in_err-b.was

pub returns : goal.returns
unfolding rated dimension
returns c = seq_to _ (c.skip_fields.ensures ∙ pad 8 (8 ∷ []) 2 _ _) c.in_ok-b.was (rw c.back.ensures.0 at c.dimensions.ensures)
