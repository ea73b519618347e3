-- `put_kind` meets its contract.
use Rattle.lines.specs.Lines.{kind_word}
use Rattle.lines.proofs.sections.put_kind.Goals as goal

pub returns-in-Mgt : goal.returns-in-Mgt
unfolding kind_word
returns-in-Mgt c = rw c.in-Mgt.is c.put_all.ensures

pub returns-in-Tvct : goal.returns-in-Tvct
unfolding kind_word
returns-in-Tvct c = rw c.in-Tvct.is c.put_all-in-Tvct.ensures

pub returns-in-Rrt : goal.returns-in-Rrt
unfolding kind_word
returns-in-Rrt c = rw c.in-Rrt.is c.put_all-in-Rrt.ensures

pub returns-in-Eit : goal.returns-in-Eit
unfolding kind_word
returns-in-Eit c = rw c.in-Eit.is c.put_all-in-Eit.ensures

pub returns-in-Ett : goal.returns-in-Ett
unfolding kind_word
returns-in-Ett c = rw c.in-Ett.is c.put_all-in-Ett.ensures
