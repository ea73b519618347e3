-- `count_strings` meets its contract.
use Rattle.text.specs.Strings.{string_count}
use Rattle.logic.proofs.ChoiceLaws.{eq_yes, eq_no}
use native.Mathlib.Omega.{arith}
use mathlib.Core.Path.{refl}
use Rattle.text.proofs.inner.count_strings.Goals as goal

pub returns-then-at-end : goal.returns-then-at-end
unfolding string_count
returns-then-at-end c = (eq_yes _ _ _ _ c.if-at-end.true refl, omega arith)

pub returns-else-at-end : goal.returns-else-at-end
unfolding string_count
returns-else-at-end c = (eq_no _ _ _ _ c.if-at-end.false c.byte.ensures.0, c.byte.ensures.1.0)
