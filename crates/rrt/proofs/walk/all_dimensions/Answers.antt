-- `all_dimensions` meets its contract.
use mathlib.Core.Path.{sym, ◌∙◌}
use Rattle.format.specs.Formats.{walks}
use Rattle.format.proofs.FieldLaws.{skip_field}
use Rattle.rrt.specs.Walked.{dimension, dimensions}
use borrow.Author.Rules.{rules}
use Rattle.bytes_at.proofs.WalkLaws.{exit, seq_to}
use Rattle.rrt.proofs.walk.all_dimensions.Goals as goal

pub returns-in_err-b : goal.returns-in_err-b
unfolding dimensions
returns-in_err-b c = exit _ c.from_residual.ensures.1 (c.skip.ensures ∙ sym (skip_field 1 _ _)) c.in_err-b.was

pub returns : goal.returns
unfolding dimensions
returns c = seq_to _ (c.skip.ensures ∙ sym (skip_field 1 _ _)) c.in_ok-b.was
    (rw c.back.ensures.0 at c.one_or_more.ensures (walks dimension c.args.s.now c.args.end) (λ a w h. search rules))
