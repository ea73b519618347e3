-- `put_row` meets its contract.
use Rattle.rrt.proofs.EndLaws.{dimension_begins}
use Rattle.rrt.proofs.numbers.put_row.Goals as goal

pub put_numbers-requires : goal.put_numbers-requires
put_numbers-requires c =
    let r = c.requires in
    ((dimension_begins _ _ r.0.0, r.0.1), r.1)
