-- `edit` meets its contract: the edition's record is written, and the places are released so far.
use mathlib.Core.Path.{◌∙◌}
use Rattle.logic.proofs.LoopLaws.{at_end}
use Rattle.shelf_state.proofs.RecordLaws.{drop_none, drop_step}
use Rattle.shelf_state.specs.Searches.{drop_below}
use Rattle.shelf.proofs.OwnerLaws.{edited_by_lem}
use Rattle.shelf.proofs.delivery.edit.Goals as goal

pub loop-j-init : goal.loop-j-init
loop-j-init c = drop_none _ _

pub loop-j-preserved : goal.loop-j-preserved
loop-j-preserved c = drop_step _ _ _ _ _ c.loop-j.invariant c.released.ensures

pub returns : goal.returns
returns c = at_end (drop_below _ _) c.loop-j.auto.j-end c.loop-j-test.false c.loop-j.invariant ∙ edited_by_lem _ _ _ _ _ c.hear.ensures c.dropped_below-n.ensures.0
