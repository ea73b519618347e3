-- `put_answer` meets its contract.
use Rattle.shown.specs.Titles.{text_shown}
use Rattle.shown.specs.Ascii.{field}
use Rattle.shown.specs.Inner.{told}
use Rattle.shown.proofs.title.put_answer.Goals as goal

pub returns-in-Err : goal.returns-in-Err
unfolding text_shown told field
returns-in-Err c =
    rw c.in-Err.is (rw c.number_of.ensures at c.put_field.ensures)

pub returns-in-Ok : goal.returns-in-Ok
unfolding told
returns-in-Ok c = rw c.in-Ok.is c.put_quoted.ensures
