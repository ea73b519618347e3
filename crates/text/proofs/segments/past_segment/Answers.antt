-- `past_segment` meets its contract.
use mathlib.Core.Path.{ap, ◌∙◌}
use Rattle.bytes_at.specs.Walks.{standing}
use Rattle.text.proofs.JoinLaws.{many_once}
use Rattle.text.proofs.segments.past_segment.Goals as goal

pub returns : goal.returns
returns c = c.standing.ensures ∙ ap standing (c.segments.ensures ∙ many_once _ _)
