-- `descriptor` meets its contract.
use mathlib.Core.Path.{ap, ◌∙◌}
use Rattle.refusal.specs.Outcomes.{or_none}
use Rattle.refusal.proofs.OutcomeLaws.{exit, went, none_refused}
use Rattle.reading.specs.Eits.{descriptor_of}
use Rattle.reading.proofs.eits.descriptor.Goals as goal

pub returns-in_err-a : goal.returns-in_err-a
unfolding descriptor_of
returns-in_err-a c = exit _ _ c.from_residual.ensures.1 c.spot_of.ensures.0 c.in_err-a.was

pub returns : goal.returns
unfolding descriptor_of
returns c =
    went _ c.spot_of.ensures.0 c.in_ok-a.was (none_refused _ c.ok_or.ensures.value ∙ ap or_none c.descriptor_at.ensures)
