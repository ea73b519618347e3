-- `put_title` meets its contract.
use Rattle.shown.specs.Titles.{title_shown}
use Rattle.shown.proofs.title.put_title.Goals as goal

pub returns-in-None : goal.returns-in-None
unfolding title_shown
returns-in-None c = rw c.in-None.is c.put_all.ensures

pub returns-in-NoStrings : goal.returns-in-NoStrings
unfolding title_shown
returns-in-NoStrings c = rw c.in-NoStrings.is c.put_all-in-NoStrings.ensures

pub returns-in-Text : goal.returns-in-Text
unfolding title_shown
returns-in-Text c = rw c.in-Text.is c.put_text.ensures
