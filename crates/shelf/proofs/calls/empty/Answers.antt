-- `empty` meets its contract.
use mathlib.Core.Path.{◌∙◌, ap, sym}
use Rattle.shelf.proofs.CallLaws.{go_on, stop}
use Rattle.shelf.specs.Calls.{answered, made, refused_with}
use Rattle.shelf.proofs.calls.empty.Goals as goal

pub returns-then-not-sizes_in_range : goal.returns-then-not-sizes_in_range
unfolding made
returns-then-not-sizes_in_range c = stop _ _ _ _ (sym c.sizes_in_range.ensures ∙ c.if-not-sizes_in_range.true) (ap (refused_with 14) c.empty_shelf.ensures)

pub returns : goal.returns
unfolding made
returns c = go_on _ _ _ _ (sym c.sizes_in_range.ensures ∙ c.if-not-sizes_in_range.false) (ap (answered tt) c.empty_shelf-2.ensures)
