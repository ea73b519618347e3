-- `put_units` meets its contract.
use Rattle.shown.specs.Titles.{all_shown}
use Rattle.shown.proofs.PutLaws.{put_nothing}
use Rattle.shown.proofs.TitleLaws.{units_more}
use Rattle.shown.proofs.title.put_units.Goals as goal

pub loop-u-init : goal.loop-u-init
unfolding all_shown
loop-u-init c = put_nothing _ _ _ c.min-m.ensures

pub loop-u-preserved : goal.loop-u-preserved
loop-u-preserved c =
    units_more c.args.units.now c.loop-u.u-index c.loop-u-test.true c.loop-u.invariant c.put_unit-m.ensures
