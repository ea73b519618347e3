-- `renew` meets its contract: with the record in place, the places so far are released.
use Rattle.shelf_state.proofs.RecordLaws.{drop_none, drop_step}
use Rattle.shelf_state.proofs.inner.renew.Goals as goal

pub loop-i-init : goal.loop-i-init
loop-i-init c = drop_none _ _

pub loop-i-preserved : goal.loop-i-preserved
loop-i-preserved c = drop_step _ _ _ _ _ c.loop-i.invariant c.released.ensures
