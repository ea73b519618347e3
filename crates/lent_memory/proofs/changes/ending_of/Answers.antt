-- `ending_of` meets its contract.
use borrow.Author.Tests.{lt-ltb, le-ltb}
use Rattle.lent_memory.specs.Inner.{ending_at}
use Rattle.lent_memory.proofs.changes.ending_of.Goals as goal

pub returns-then-at-n : goal.returns-then-at-n
unfolding ending_at
returns-then-at-n c = rw (← c.at_most-n.ensures.0, ← c.changed_at-at.ensures, lt-ltb _ _ c.if-at-n.true, c.record_of.ensures)

pub returns : goal.returns
unfolding ending_at
returns c = rw (← c.at_most-n.ensures.0, ← c.changed_at-at.ensures, le-ltb _ _ c.if-at-n.false, c.blank_record.ensures)
