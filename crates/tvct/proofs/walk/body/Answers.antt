-- `body` meets its contract.
use mathlib.Core.Path.{sym, ◌∙◌}
use Rattle.format.proofs.FormatLaws.{then_assoc}
use Rattle.tvct.specs.Walked.{tvct}
use Rattle.bytes_at.proofs.WalkLaws.{exit, seq_to}
use Rattle.tvct.proofs.walk.body.Goals as goal

pub returns-in_err-b : goal.returns-in_err-b
unfolding tvct
returns-in_err-b c = exit _ c.from_residual.ensures.1 c.all_channels.ensures c.in_err-b.was ∙ sym (then_assoc _ _ _)

pub returns-in_err-e : goal.returns-in_err-e
unfolding tvct
returns-in_err-e c = seq_to _ c.all_channels.ensures c.in_ok-b.was (exit _ c.from_residual-in_err-e.ensures.1 c.whole_list10.ensures c.in_err-e.was)
    ∙ sym (then_assoc _ _ _)

pub returns : goal.returns
unfolding tvct
returns c = seq_to _ c.all_channels.ensures c.in_ok-b.was (seq_to _ c.whole_list10.ensures c.in_ok-e.was c.at_end.ensures)
    ∙ sym (then_assoc _ _ _)
