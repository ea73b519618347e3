-- `titles_in` meets its contract: 12, or the rows and the units.
use Rattle.titles.proofs.TitlesLaws.{no_rows, no_units, both_room}
use Rattle.titles.proofs.titles_in.Goals as goal

pub returns-then-rows-k : goal.returns-then-rows-k
returns-then-rows-k c =
    let at = c.body_start-at.ensures.0 in
    let k = rw at at c.count-k.ensures.0 in
    let from = rw at at c.first-from.ensures in
    let a = c.args in
    let ends = no_rows a.s.now a.rows.now a.units.now _ _ k from c.if-rows-k.true in record { told = ends.0; rows = ends.1.0; units = ends.1.1 }

pub returns-then-has_room : goal.returns-then-has_room
returns-then-has_room c =
    let at = c.body_start-at.ensures.0 in
    let k = rw at at c.count-k.ensures.0 in
    let from = rw at at c.first-from.ensures in
    let a = c.args in
    let p = c.put_titles-n.ensures in
    let ends = both_room a.s.now a.rows.now a.units.now _ _ k from _ _ _ c.if-rows-k.false (c.has_room.ensures.enough c.if-has_room.true) p.counts p.rows p.units in record { told = ends.0; rows = ends.1.0; units = ends.1.1 }

pub returns : goal.returns
returns c =
    let at = c.body_start-at.ensures.0 in
    let k = rw at at c.count-k.ensures.0 in
    let from = rw at at c.first-from.ensures in
    let a = c.args in
    let ends = no_units a.s.now a.rows.now a.units.now _ _ k from c.if-rows-k.false (c.has_room.ensures.short c.if-has_room.false) in record { told = ends.0; rows = ends.1.0; units = ends.1.1 }
