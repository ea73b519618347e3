-- `hex_digit` meets its contract.
use mathlib.Core.Path.{refl}
use Rattle.logic.proofs.ChoiceLaws.{lt_yes, lt_no}
use Rattle.shown.specs.Ascii.{hex_digit}
use Rattle.shown.proofs.title.hex_digit.Goals as goal

pub returns-then-d-lt10 : goal.returns-then-d-lt10
unfolding hex_digit
returns-then-d-lt10 c = lt_yes _ _ _ _ c.if-d-lt10.true refl

pub returns-else-d-lt10 : goal.returns-else-d-lt10
unfolding hex_digit
returns-else-d-lt10 c = lt_no _ _ _ _ c.if-d-lt10.false refl
