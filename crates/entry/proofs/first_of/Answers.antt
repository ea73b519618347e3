-- `first_of` meets its contract.
use Rattle.entry.specs.Entries.{first_entry}
use Rattle.entry.proofs.first_of.Goals as goal

pub returns-in-Table : goal.returns-in-Table
unfolding first_entry
returns-in-Table c = rw c.in-Table.is (rw c.body_start.ensures.0 at c.first.ensures)

pub returns-in-Channel : goal.returns-in-Channel
unfolding first_entry
returns-in-Channel c = rw c.in-Channel.is (rw c.body_start-in-Channel.ensures.0 at c.first-in-Channel.ensures)

pub returns-in-Dimension : goal.returns-in-Dimension
unfolding first_entry
returns-in-Dimension c = rw c.in-Dimension.is (rw c.body_start-in-Dimension.ensures.0 at c.first-in-Dimension.ensures)

pub returns-in-Event : goal.returns-in-Event
unfolding first_entry
returns-in-Event c = rw c.in-Event.is (rw c.body_start-in-Event.ensures.0 at c.first-in-Event.ensures)
