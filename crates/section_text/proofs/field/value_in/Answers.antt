-- `value_in` meets its contract.
use Rattle.refusal.proofs.OutcomeLaws.{exit, handed_on}
use Rattle.entry.proofs.EntryLaws.{refused_inside}
use Rattle.refusal.specs.Outcomes.{after}
use Rattle.section_text.specs.Fields.{value_in}
use Rattle.section_text.proofs.field.value_in.Goals as goal

pub returns-in_err-d : goal.returns-in_err-d
unfolding value_in
returns-in_err-d c = (exit _ _ c.from_residual.ensures.1 c.spot_in.ensures.0 c.in_err-d.was, refused_inside _ (handed_on c.from_residual.ensures.1))

pub returns : goal.returns
unfolding value_in after
returns c =
    (rw (← c.spot_in.ensures.0, c.in_ok-d.was) c.value_spot.ensures.0, c.value_spot.ensures.1)
