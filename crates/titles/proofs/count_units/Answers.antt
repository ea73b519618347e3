-- `count_units` meets its contract: the units that are left lead to the answer.
use mathlib.Core.Path.{◌∙◌}
use native.Mathlib.Omega.{arith}
use Rattle.titles.proofs.ReadLaws.{count_told_lem}
use Rattle.titles.proofs.TitlesLaws.{count_first, count_room, units_few, count_step, count_done}
use Rattle.titles.proofs.count_units.Goals as goal

pub loop-init : goal.loop-init
loop-init c = count_first c.requires (omega arith)

pub overflow_add-n : goal.overflow_add-n
overflow_add-n c =
    let p = c.requires in
    omega (arith, count_room c.loop.invariant (omega arith), units_few _ _ _ p, p.small, c.units_of-n.ensures, count_told_lem c.read_title.ensures c.read_title.array_long)

pub loop-preserved : goal.loop-preserved
loop-preserved c =
    count_step c.loop.invariant _ _ _ (omega arith) (omega arith) (c.units_of-n.ensures ∙ count_told_lem c.read_title.ensures c.read_title.array_long) c.event_end-a.ensures

pub returns : goal.returns
returns c =
    count_done c.loop.invariant (omega arith)
