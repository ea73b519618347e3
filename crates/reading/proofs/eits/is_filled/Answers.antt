-- `is_filled` meets its contract.
use mathlib.Core.Path.{ap, ◌∙◌}
use Rattle.eit.specs.Given.{stands}
use Rattle.eit.proofs.GivenLaws.{stood}
use Rattle.reading.proofs.eits.is_filled.Goals as goal

pub returns : goal.returns
returns c = stood _ c.is_ok.ensures.value ∙ ap stands c.whole_descriptors.ensures
