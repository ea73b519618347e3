-- `put_value` meets its contract: the two numbers, and after them the texts.
use Rattle.rrt.proofs.RowLaws.{value_stored}
use Rattle.rrt.proofs.numbers.put_value.Goals as goal

pub returns : goal.returns
returns c =
    record { next = c.put_texts.ensures.next; puts = value_stored _ _ _ _ _ _ (rw (c.narrow.ensures, c.narrow-2.ensures) at c.put_all.ensures) c.put_texts.ensures.puts }
