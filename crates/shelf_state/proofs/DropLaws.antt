-- A watch's sections are dropped: the rules are kept, the watch holds nothing, and no other place changes.
use Prim.Native.Nat.{◌<◌, ◌≤◌, ℕ}
use mathlib.Core.Path.{◌∙◌, ◌≡◌, ap, refl, subst, sym}
use mathlib.Core.Bool.{Bool, false, true}
use native.Mathlib.Omega.{arith}
use Rattle.logic.specs.Choices.{pick}
use Rattle.logic.proofs.LoopLaws.{each_at, isnt, length_each, true_false}
use Rattle.shelf_state.proofs.RecordLaws.{holds_free, holds_parts, for_parts}
use Rattle.shelf_state.proofs.RuleLaws.{Owned, Rules}
use Rattle.shelf_state.specs.Records.{blank_place, holds, place_at, holds_for}
use Rattle.shelf_state.specs.Searches.{dropped, release}
use Rattle.shelf_state.specs.declared.records.Place.{Place}
use Rattle.shelf_state.specs.declared.records.Shelf.{Shelf}

-- a place that is taken after a release was so before, and is not the watch's
release_used : (w : ℕ) (p : Place) → (release w p).used ≡ true → (release w p ≡ p) × (holds_for p w ≡ false)
unfolding release
release_used w p e = go (holds_for p w) refl e
  where
    go : (b : Bool) → holds_for p w ≡ b → (pick b blank_place p).used ≡ true → (pick b blank_place p ≡ p) × (holds_for p w ≡ false)
    go true f u = true_false false u refl
    go false f u = (refl, f)

-- what a release leaves of another watch's sections
pub release_other : (w v : ℕ) (p : Place) (m : ℕ) → (v ≡ w → ⊥) → (holds (release w p) v m ≡ holds p v m) × (holds p v m ≡ true → release w p ≡ p)
unfolding release
release_other w v p m n = go (holds_for p w) refl
  where
    clash : holds_for p w ≡ true → holds p v m ≡ true → ⊥
    clash e t = n (sym (holds_parts p v m t).1 ∙ (for_parts p w e).1)

    go : (b : Bool) → holds_for p w ≡ b → (holds (pick b blank_place p) v m ≡ holds p v m) × (holds p v m ≡ true → pick b blank_place p ≡ p)
    go true e = (holds_free blank_place v m refl ∙ sym (isnt (holds p v m) (clash e)), λ t. absurd (clash e t))
    go false e = (refl, λ _. refl)

release_own : (w : ℕ) (p : Place) → holds_for (release w p) w ≡ false
unfolding release
release_own w p = go (holds_for p w) refl
  where
    go : (b : Bool) → holds_for p w ≡ b → holds_for (pick b blank_place p) w ≡ false
    go true e = isnt (holds_for blank_place w) (λ t. true_false false (for_parts blank_place w t).0 refl)
    go false e = e

module _ (s : Shelf) (area : ℕ) (h : Rules s area) (w : ℕ) where
  abbrev t : Shelf
  t = dropped s w

  pub place_is : (i : ℕ) → i < s.count → place_at t i ≡ release w (place_at s i)
  place_is i a = each_at (release w) blank_place s.count s.places i a (omega (arith, h.size.count_64, h.size.places_64))

  pub drop_nobody : (i : ℕ) → i < s.count → holds_for (place_at t i) w ≡ false
  drop_nobody i a = ap (λ (p : Place). holds_for p w) (place_is i a) ∙ release_own w (place_at s i)

  -- a place taken afterwards is as it was
  place_used : (i : ℕ) → i < s.count → (place_at t i).used ≡ true → place_at t i ≡ place_at s i
  place_used i a u = place_is i a ∙ (release_used w (place_at s i) (sym (ap (λ (p : Place). p.used) (place_is i a)) ∙ u)).0

  was_used : (i : ℕ) → i < s.count → (place_at t i).used ≡ true → (place_at s i).used ≡ true
  was_used i a u = sym (ap (λ (p : Place). p.used) (place_used i a u)) ∙ u

  once_kept : (i j : ℕ) → i < j → j < s.count → (place_at t j).used ≡ true → holds (place_at t i) (place_at t j).watch (place_at t j).number ≡ false
  once_kept i j a b u =
      subst (λ (p : Place). holds (place_at t i) p.watch p.number ≡ false) (sym (place_used j b u))
      (isnt (holds (place_at t i) (place_at s j).watch (place_at s j).number) (λ e.
      let q = place_used i (omega (arith, a, b)) (holds_parts _ _ _ e).0 in
      true_false (holds (place_at s i) (place_at s j).watch (place_at s j).number)
      (sym (ap (λ (p : Place). holds p (place_at s j).watch (place_at s j).number) q) ∙ e)
      (h.once i j a b (was_used j b u))))

  pub drop_rules : Rules t area
  drop_rules = record {
    size = record {
      watches_16 = h.size.watches_16;
      places_64 = length_each (release w) blank_place s.count s.places ∙ h.size.places_64;
      count_1 = h.size.count_1;
      count_64 = h.size.count_64;
      records_1 = h.size.records_1;
      records_16 = h.size.records_16;
      area_is = h.size.area_is;
    };
    keys_differ_lem = h.keys_differ_lem;
    promise = h.promise;
    owned = λ i a u.
        let o : Owned s (place_at s i) = h.owned i a (was_used i a u) in
        subst (Owned t) (sym (place_used i a u)) (record { below = o.below; live = o.live; heard = o.heard; upto = o.upto });
    once = once_kept;
    last_below = h.last_below;
    short = λ i a u. subst (λ (p : Place). p.length ≤ 4096) (sym (place_used i a u)) (h.short i a (was_used i a u));
    range = h.range;
  }
