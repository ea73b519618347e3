-- `put_part` meets its contract.
use Rattle.row.specs.Rows.{part_row}
use Rattle.row.proofs.put_part.Goals as goal

pub returns : goal.returns
unfolding part_row
returns c = rw (c.narrow.ensures, c.narrow-2.ensures) at c.put_all.ensures
