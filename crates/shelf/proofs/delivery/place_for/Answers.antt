-- `place_for` meets its contract.
use mathlib.Core.Path.{◌∙◌}
use Rattle.logic.proofs.LoopLaws.{any_no, any_yes}
use Rattle.shelf_state.proofs.SearchLaws.{free_found, place_found}
use Rattle.shelf.specs.Delivery.{place_among}
use Rattle.shelf.proofs.delivery.place_for.Goals as goal

pub returns-then-i-s : goal.returns-then-i-s
unfolding place_among
returns-then-i-s c = rw (any_yes _ _ (c.find_place-i.ensures ∙ place_found _ _ c.places_in_use-ps.ensures _ _) c.if-i-s.true) (c.find_place-i.ensures ∙ place_found _ _ c.places_in_use-ps.ensures _ _)

pub returns : goal.returns
unfolding place_among
returns c = rw (any_no _ _ (c.find_place-i.ensures ∙ place_found _ _ c.places_in_use-ps.ensures _ _) c.if-i-s.false) (c.free_place.ensures ∙ free_found _ _ c.places_in_use-ps.ensures)
