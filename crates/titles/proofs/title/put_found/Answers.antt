-- `put_found` meets its contract.
use Rattle.titles.specs.Inner.{row_of}
use Rattle.titles.proofs.title.put_found.Goals as goal

pub returns-in-NoTitle : goal.returns-in-NoTitle
unfolding row_of
returns-in-NoTitle c = rw c.in-NoTitle.is c.put_blank.ensures

pub returns-in-NoStrings : goal.returns-in-NoStrings
unfolding row_of
returns-in-NoStrings c = rw c.in-NoStrings.is c.put_blank-in-NoStrings.ensures

pub returns-in-Ok : goal.returns-in-Ok
unfolding row_of
returns-in-Ok c = rw (c.in-Text.is, c.in-Ok.is) (rw (c.narrow.ensures, c.narrow-in-Ok.ensures, c.narrow-in-Ok-2.ensures) at c.put_all.ensures)

pub returns-in-Err : goal.returns-in-Err
unfolding row_of
returns-in-Err c = rw (c.in-Text.is, c.in-Err.is) (rw c.number_of.ensures at c.put_blank-in-Err.ensures)
