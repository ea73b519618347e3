-- `fetch_from` meets its contract.
use Prim.Native.Nat.{◌*◌, ℕ}
use mathlib.Core.Path.{◌∙◌, ap, ap₂}
use Rattle.logic.proofs.LoopLaws.{any_no, any_yes}
use Rattle.refusal.specs.Outcomes.{resulted}
use Rattle.shelf_state.proofs.SearchLaws.{place_found}
use Rattle.shelf_state.specs.Records.{place_at}
use Rattle.shelf.specs.Calls.{fetched_from, or_refuse_with}
use Rattle.shelf.proofs.inner.fetch_from.Goals as goal

pub returns-then-i-s : goal.returns-then-i-s
unfolding fetched_from or_refuse_with
returns-then-i-s c = rw (any_no _ _ (c.find_place-i.ensures ∙ place_found _ _ c.places_in_use.ensures _ _) c.if-i-s.true)

pub returns : goal.returns
unfolding fetched_from or_refuse_with
returns c = rw (any_yes _ _ (c.find_place-i.ensures ∙ place_found _ _ c.places_in_use.ensures _ _) c.if-i-s.false)
    (ap₂ (λ (i l : ℕ). resulted (record { start = i * 4096; length = l })) (c.find_place-i.ensures ∙ place_found _ _ c.places_in_use.ensures _ _)
    (c.from.ensures ∙ ap (λ (i : ℕ). (place_at c.args.s.now i).length) (c.find_place-i.ensures ∙ place_found _ _ c.places_in_use.ensures _ _)))
