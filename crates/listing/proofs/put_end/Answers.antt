-- `put_end` meets its contract.
use mathlib.Core.Path.{sym, ◌∙◌}
use borrow.Author.Tests.{eqb-true, eqb-false}
use Rattle.listing.proofs.StepLaws.{at_the_end, cut_at_the_end, tells, tells_over}
use Rattle.listing.proofs.put_end.Goals as goal

pub returns-then-is_empty : goal.returns-then-is_empty
returns-then-is_empty c =
    tells (at_the_end _ _ (eqb-true _ 0 (sym c.is_empty.ensures ∙ c.if-is_empty.true))) (tells_over c.put_last.ensures c.over.ensures)

pub returns : goal.returns
returns c =
    tells (cut_at_the_end _ _ (eqb-false _ 0 (sym c.is_empty.ensures ∙ c.if-is_empty.false))) (tells_over c.put_bad.ensures c.over-2.ensures)
