-- `whole_body` meets its contract.
use Rattle.section.specs.Walked.{body_of}
use Rattle.section.proofs.inner.whole_body.Goals as goal

pub returns-in-Mgt : goal.returns-in-Mgt
unfolding body_of
returns-in-Mgt c = rw c.in-Mgt.is c.body.ensures

pub returns-in-Tvct : goal.returns-in-Tvct
unfolding body_of
returns-in-Tvct c = rw c.in-Tvct.is c.body-in-Tvct.ensures

pub returns-in-Rrt : goal.returns-in-Rrt
unfolding body_of
returns-in-Rrt c = rw c.in-Rrt.is c.body-in-Rrt.ensures

pub returns-in-Eit : goal.returns-in-Eit
unfolding body_of
returns-in-Eit c = rw c.in-Eit.is c.body-in-Eit.ensures

pub returns-in-Ett : goal.returns-in-Ett
unfolding body_of
returns-in-Ett c = rw c.in-Ett.is c.body-in-Ett.ensures
