-- `note` meets its contract.
use borrow.Author.Tests.{lt-ltb, le-ltb}
use Rattle.telling.specs.Told.{noted}
use Rattle.telling.proofs.told.note.Goals as goal

pub returns-then-x-lt-NO_VALUE : goal.returns-then-x-lt-NO_VALUE
unfolding noted
returns-then-x-lt-NO_VALUE c = rw (lt-ltb _ _ c.if-x-lt-NO_VALUE.true)

pub returns-else-x-lt-NO_VALUE : goal.returns-else-x-lt-NO_VALUE
unfolding noted
returns-else-x-lt-NO_VALUE c = rw (le-ltb _ _ c.if-x-lt-NO_VALUE.false)
