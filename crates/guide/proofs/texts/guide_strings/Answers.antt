-- `guide_strings` meets its contract.
use Rattle.telling.proofs.ToldLaws.{told_refused, told_as}
use Rattle.telling.specs.Texts.{of_text}
use Rattle.guide.proofs.texts.guide_strings.Goals as goal

pub returns-in-None : goal.returns-in-None
unfolding of_text
returns-in-None c = told_refused _ _ _ _ _ (rw (← c.which_of.ensures, c.in-None.is)) c.number_of.ensures

pub returns-in-Some : goal.returns-in-Some
unfolding of_text
returns-in-Some c = rw (← c.which_of.ensures, c.in-Some.is) (told_as c.count_strings.ensures c.tell_count.ensures)
