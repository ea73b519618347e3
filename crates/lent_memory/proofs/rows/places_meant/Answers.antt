-- `places_meant` meets its contract: the rows so far are places.
use mathlib.Core.Path.{◌∙◌, ap}
use lib.ListN.{replicate}
use Rattle.shelf_state.specs.declared.records.Place.{Place}
use Rattle.lent_memory.proofs.RowLaws.{places_none, places_step}
use Rattle.lent_memory.proofs.rows.places_meant.Goals as goal

pub loop-i-init : goal.loop-i-init
loop-i-init c = ap (λ (p : Place). replicate 64 p) c.blank_place-blank.ensures ∙ places_none _ _

pub loop-i-preserved : goal.loop-i-preserved
loop-i-preserved c = places_step _ _ _ _ _ c.loop-i.invariant c.place_meant.ensures
