-- `inspect_kind` meets its contract: the header's tests, then the body.
use Rattle.section.specs.Answers.{verdict_by}
use Rattle.section.proofs.inner.inspect_kind.Goals as goal

pub returns : goal.returns
unfolding verdict_by
returns c = rw (← c.header_of_kind.ensures) c.with_body.ensures
