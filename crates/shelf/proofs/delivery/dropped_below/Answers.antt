-- `dropped_below` meets its contract.
use mathlib.Core.Path.{◌∙◌, sym}
use native.Mathlib.Omega.{arith}
use Rattle.shelf.specs.Inner.{dropped_below}
use Rattle.shelf.proofs.delivery.dropped_below.Goals as goal

pub returns-then-same_edition : goal.returns-then-same_edition
unfolding dropped_below
returns-then-same_edition c = (rw (sym c.same_edition.ensures ∙ c.if-same_edition.true), omega arith)

pub returns-else-same_edition : goal.returns-else-same_edition
unfolding dropped_below
returns-else-same_edition c = (rw (sym c.same_edition.ensures ∙ c.if-same_edition.false), omega arith)
