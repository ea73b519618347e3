-- `past` meets its contract.
use Rattle.entry.specs.Entries.{format_of, entry_walk}
use Rattle.entry.proofs.past.Goals as goal

pub returns-in-Table : goal.returns-in-Table
unfolding entry_walk format_of
returns-in-Table c =
    rw (← c.first_of-from.ensures, ← c.body_end-end.ensures, c.in-Table.is) c.past.ensures

pub returns-in-Channel : goal.returns-in-Channel
unfolding entry_walk format_of
returns-in-Channel c =
    rw (← c.first_of-from.ensures, ← c.body_end-end.ensures, c.in-Channel.is) c.past-in-Channel.ensures

pub returns-in-Dimension : goal.returns-in-Dimension
unfolding entry_walk format_of
returns-in-Dimension c =
    rw (← c.first_of-from.ensures, ← c.body_end-end.ensures, c.in-Dimension.is) c.past-in-Dimension.ensures

pub returns-in-Event : goal.returns-in-Event
unfolding entry_walk format_of
returns-in-Event c =
    rw (← c.first_of-from.ensures, ← c.body_end-end.ensures, c.in-Event.is) c.past-in-Event.ensures
