-- `put_row` meets its contract.
use Rattle.eit.proofs.RowLaws.{event_row_lem}
use Rattle.eit.proofs.numbers.put_row.Goals as goal

pub returns : goal.returns
returns c = let k = c.put_times.ensures in
    let p = c.title_part.ensures.0 in
    record { next = c.event_end.ensures; puts = event_row_lem _ _ _ _ k p c.put_part.ensures c.descriptors_at.ensures.0 c.put_part-2.ensures }
