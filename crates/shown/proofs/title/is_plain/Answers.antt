-- `is_plain` meets its contract.
use mathlib.Core.Path.{ap, ◌∙◌}
use mathlib.Core.Bool.{not}
use borrow.Author.Tests.{eq-eqb}
use native.Mathlib.Omega.{arith}
use Rattle.shown.proofs.TitleLaws.{plain_low, plain_high, plain_mark, plain_other, quote_not}
use Rattle.shown.proofs.title.is_plain.Goals as goal

pub returns-then-u-ne34 : goal.returns-then-u-ne34
returns-then-u-ne34 c = plain_other _ (omega arith) (omega arith) c.if-u-ne34.true

pub returns-else-u-ne34 : goal.returns-else-u-ne34
returns-else-u-ne34 c = ap not (eq-eqb _ 34 c.if-u-ne34.false) ∙ plain_mark _ 34 quote_not c.if-u-ne34.false

pub returns-in_default : goal.returns-in_default
returns-in_default c = plain_low _ (omega arith)

pub returns-in_default-2 : goal.returns-in_default-2
returns-in_default-2 c = plain_high _ (omega arith) (omega arith)
