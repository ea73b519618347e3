-- `segment_once` meets its contract.
use Rattle.text.proofs.UnitLaws.{units_at}
use Rattle.text.proofs.once.segment_once.Goals as goal

pub returns : goal.returns
returns c =
    let a = c.args in
    let e = units_at a.s.now _ a.at _ _ _ _ c.byte.ensures.0 c.byte-2.ensures.0 c.byte-3.ensures.0 c.way_of-w.ensures
    c.part_of-bytes.ensures
    in
    rw e at c.one_once.ensures
