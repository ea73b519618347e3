-- `guide_text` meets its contract.
use mathlib.Core.Path.{refl}
use Rattle.telling.proofs.ToldLaws.{told_refused, told_as}
use Rattle.telling.specs.Texts.{of_text}
use Rattle.refusal.specs.Outputs.{output_after}
use Rattle.guide.proofs.texts.guide_text.Goals as goal

pub returns-in-None : goal.returns-in-None
unfolding of_text output_after
returns-in-None c = rw (← c.which_of.ensures, c.in-None.is) record { answers = told_refused _ _ _ _ _ refl c.number_of.ensures; writes = refl }

pub returns-in-Some : goal.returns-in-Some
unfolding of_text
returns-in-Some c = let e = rw c.wide.ensures at c.string_text.ensures in
    rw (← c.which_of.ensures, c.in-Some.is) record { answers = told_as e.answers c.tell_amount.ensures; writes = e.writes }
