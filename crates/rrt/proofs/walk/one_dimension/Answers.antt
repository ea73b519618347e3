-- `one_dimension` meets its contract.
use mathlib.Core.Path.{sym, ◌∙◌}
use mathlib.Core.List.{[]}
use native.Mathlib.Omega.{arith}
use Rattle.format.specs.Formats.{walks}
use Rattle.format.proofs.FieldLaws.{skip_field, merge}
use Rattle.rrt.specs.Walked.{value, dimension}
use Rattle.strings.specs.Strings.{sized_text}
use borrow.Author.Rules.{rules}
use Rattle.bytes_at.proofs.WalkLaws.{exit, seq_to}
use Rattle.rrt.proofs.walk.one_dimension.Goals as goal

pub returns-in_err-b : goal.returns-in_err-b
unfolding dimension value sized_text
returns-in_err-b c = exit _ c.from_residual.ensures.1 c.sized_text.ensures c.in_err-b.was

pub returns-in_err-d : goal.returns-in_err-d
unfolding dimension value sized_text
returns-in_err-d c = seq_to _ c.sized_text.ensures c.in_ok-b.was
    (exit _ c.from_residual-in_err-d.ensures.1 (c.skip.ensures ∙ sym (skip_field 1 _ _) ∙ sym (merge 4 4 [] _ _ (omega arith))) c.in_err-d.was)

pub returns : goal.returns
unfolding dimension value sized_text
returns c = seq_to _ c.sized_text.ensures c.in_ok-b.was
    (seq_to _ (c.skip.ensures ∙ sym (skip_field 1 _ _) ∙ sym (merge 4 4 [] _ _ (omega arith))) c.in_ok-d.was
    (rw c.back.ensures.0 at c.one_or_more.ensures (walks value c.args.s.now c.args.end) (λ a w h. search rules)))
