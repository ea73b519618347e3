-- `one_descriptor` meets its contract.
use mathlib.Core.List.{[], ◌∷◌}
use mathlib.Core.Path.{◌∙◌}
use Rattle.format.proofs.FieldLaws.{pad}
use Rattle.bytes_at.proofs.WalkLaws.{exit, seq_to}
use Rattle.descriptor.specs.Descriptors.{descriptor}
use Rattle.descriptor.proofs.one_descriptor.Goals as goal

pub returns-in_err-b : goal.returns-in_err-b
unfolding descriptor
returns-in_err-b c = exit _ c.from_residual.ensures.1 (c.skip_fields.ensures ∙ pad 8 (8 ∷ []) 2 _ _) c.in_err-b.was

pub returns-in_err-e : goal.returns-in_err-e
unfolding descriptor
returns-in_err-e c = seq_to _ (c.skip_fields.ensures ∙ pad 8 (8 ∷ []) 2 _ _) c.in_ok-b.was
    (exit _ c.from_residual-in_err-e.ensures.1 (rw c.back.ensures.0 at c.skip.ensures) c.in_err-e.was)

pub returns : goal.returns
unfolding descriptor
returns c = seq_to _ (c.skip_fields.ensures ∙ pad 8 (8 ∷ []) 2 _ _) c.in_ok-b.was
    (seq_to _ (rw c.back.ensures.0 at c.skip.ensures) c.in_ok-e.was (rw c.back-2.ensures.0 at c.whole_content.ensures))
