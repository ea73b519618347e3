-- `one_event` meets its contract.
use Rattle.strings.specs.Strings.{sized_text}
use Rattle.descriptor.specs.Places.{list12}
use Rattle.eit.specs.Walked.{event}
use Rattle.bytes_at.proofs.WalkLaws.{exit, seq_to}
use Rattle.eit.proofs.walk.one_event.Goals as goal

pub returns-in_err-b : goal.returns-in_err-b
unfolding event
returns-in_err-b c = exit _ c.from_residual.ensures.1 c.skip_fields.ensures c.in_err-b.was

pub returns-in_err-d : goal.returns-in_err-d
unfolding event sized_text
returns-in_err-d c = seq_to _ c.skip_fields.ensures c.in_ok-b.was (exit _ c.from_residual-in_err-d.ensures.1 c.sized_text.ensures c.in_err-d.was)

pub returns : goal.returns
unfolding event sized_text list12
returns c = seq_to _ c.skip_fields.ensures c.in_ok-b.was
    (seq_to _ c.sized_text.ensures c.in_ok-d.was c.whole_list12.ensures)
