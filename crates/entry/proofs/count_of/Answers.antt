-- `count_of` meets its contract.
use Rattle.entry.specs.Entries.{entry_count}
use Rattle.entry.proofs.count_of.Goals as goal

pub returns-in-Table : goal.returns-in-Table
unfolding entry_count
returns-in-Table c = rw c.in-Table.is (rw c.body_start.ensures.0 at c.count.ensures.0)

pub returns-in-Channel : goal.returns-in-Channel
unfolding entry_count
returns-in-Channel c = rw c.in-Channel.is (rw c.body_start-in-Channel.ensures.0 at c.count-in-Channel.ensures.0)

pub returns-in-Dimension : goal.returns-in-Dimension
unfolding entry_count
returns-in-Dimension c = rw c.in-Dimension.is (rw c.body_start-in-Dimension.ensures.0 at c.count-in-Dimension.ensures.0)

pub returns-in-Event : goal.returns-in-Event
unfolding entry_count
returns-in-Event c = rw c.in-Event.is (rw c.body_start-in-Event.ensures.0 at c.count-in-Event.ensures.0)
