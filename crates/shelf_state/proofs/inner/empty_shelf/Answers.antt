-- `empty_shelf` meets its contract.
use Rattle.shelf_state.specs.Searches.{empty_shelf}
use Rattle.shelf_state.proofs.inner.empty_shelf.Goals as goal

pub returns : goal.returns
unfolding empty_shelf
returns c = rw (c.blank_watch-w.ensures, c.blank_place-p.ensures)
