-- `shelf_in` meets its contract.
use Rattle.lent_memory.specs.Meaning.{shelf_in}
use Rattle.lent_memory.proofs.rows.shelf_in.Goals as goal

pub returns : goal.returns
unfolding shelf_in
returns c = rw (c.places_meant-places.ensures, c.at_most.ensures.0, c.row_count-count.ensures)
