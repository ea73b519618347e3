-- `channel_fields` meets its contract: three steps.
use mathlib.Core.List.{[], ◌∷◌}
use mathlib.Core.Path.{sym, ◌∙◌}
use Rattle.format.proofs.FieldLaws.{pad}
use Rattle.bytes_at.proofs.WalkLaws.{exit, seq_to}
use Rattle.channel.proofs.StepLaws.{three_steps}
use Rattle.channel.proofs.walk.channel_fields.Goals as goal

pub returns-in_err-b : goal.returns-in_err-b
returns-in_err-b c = exit _ c.from_residual.ensures.1 c.skip_fields.ensures c.in_err-b.was ∙ sym (three_steps _ _)

pub returns-in_err-d : goal.returns-in_err-d
returns-in_err-d c =
    seq_to _ c.skip_fields.ensures c.in_ok-b.was
    (exit _ c.from_residual-in_err-d.ensures.1 (c.skip_fields-2.ensures ∙ pad 32 (16 ∷ 16 ∷ []) 1 _ _) c.in_err-d.was)
    ∙ sym (three_steps _ _)

pub returns : goal.returns
returns c =
    seq_to _ c.skip_fields.ensures c.in_ok-b.was
    (seq_to _ (c.skip_fields-2.ensures ∙ pad 32 (16 ∷ 16 ∷ []) 1 _ _) c.in_ok-d.was (c.skip_fields-3.ensures ∙ pad 10 (6 ∷ 16 ∷ []) 1 _ _))
    ∙ sym (three_steps _ _)
