-- `kept` meets its contract: the place's bytes are handed back.
use Prim.Native.Nat.{◌*◌, ℕ}
use mathlib.Core.Path.{◌∙◌, ap, ap₂}
use lib.ListN.{drop, take}
use Rattle.logic.proofs.LoopLaws.{any_no, any_yes}
use Rattle.shelf_state.proofs.SearchLaws.{place_found}
use Rattle.shelf_state.specs.Records.{place_at}
use Rattle.shelf.specs.Inner.{kept_bytes}
use Rattle.shelf.proofs.inner.kept.Goals as goal

pub returns-then-i-s : goal.returns-then-i-s
unfolding kept_bytes
returns-then-i-s c = rw (any_no _ _ (c.find_place-i.ensures ∙ place_found _ _ c.places_in_use.ensures _ _) c.if-i-s.true) c.part_of.ensures

pub returns : goal.returns
unfolding kept_bytes
returns c = let g = c.args in
    rw (any_yes _ _ (c.find_place-i.ensures ∙ place_found _ _ c.places_in_use.ensures _ _) c.if-i-s.false)
    (c.part_of-2.ensures ∙ ap₂ (λ (i l : ℕ). take l (drop (i * 4096) g.area.now)) (c.find_place-i.ensures ∙ place_found _ _ c.places_in_use.ensures _ _)
    (c.from.ensures ∙ ap (λ (i : ℕ). (place_at g.s i).length) (c.find_place-i.ensures ∙ place_found _ _ c.places_in_use.ensures _ _)))
