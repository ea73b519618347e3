-- `put_unit` meets its contract.
use mathlib.Core.Path.{sym, ◌∙◌}
use native.Mathlib.Omega.{arith}
use Rattle.shown.proofs.TitleLaws.{plain_small, shown_plain, shown_escaped}
use Rattle.shown.proofs.title.put_unit.Goals as goal

pub overflow_cast-u : goal.overflow_cast-u
overflow_cast-u c = omega (arith, plain_small _ (sym c.is_plain.ensures ∙ c.if-is_plain.true))

pub returns-then-is_plain : goal.returns-then-is_plain
returns-then-is_plain c =
    rw (shown_plain _ (sym c.is_plain.ensures ∙ c.if-is_plain.true)) at c.put.ensures

pub returns : goal.returns
returns c =
    rw (shown_escaped _ (sym c.is_plain.ensures ∙ c.if-is_plain.false)) at c.put_escaped.ensures
