-- The place that a section takes: it is there, nothing else holds the section, and storing its record keeps the rules.
use Prim.Native.Nat.{◌<◌, ◌≤◌, ℕ}
use mathlib.Core.Path.{◌∙◌, ◌≡◌, ap, refl, subst, sym}
use mathlib.Core.Bool.{Bool, false, not, true}
use mathlib.Core.Logic.{◌⊎◌, inl, inr, ⊎_elim}
use native.Mathlib.Omega.{arith}
use lib.ListN.{length-set}
use lib.Seq.{get_or-set_other, get_or-set_same}
use borrow.Author.Tests.{ltb-true}
use Rattle.logic.specs.Choices.{pick}
use Rattle.logic.proofs.LoopLaws.{any_at, any_first, both, first_has, isnt, none_at, not_e, same_or_not, true_false}
use Rattle.shelf_state.proofs.RecordLaws.{holds_i, holds_parts}
use Rattle.shelf_state.proofs.RuleLaws.{Owned, Rules, one_place, room_left}
use Rattle.shelf_state.specs.Records.{blank_place, holds, place_at, watch_at}
use Rattle.shelf_state.specs.Searches.{free_place, is_held, place_of}
use Rattle.shelf_state.specs.declared.records.Place.{Place}
use Rattle.shelf_state.specs.declared.records.Shelf.{Shelf}
use Rattle.shelf.specs.Delivery.{keeping, place_among, place_for, stored}

module _ (s : Shelf) (area : ℕ) (r : Rules s area) (w m : ℕ) where
  -- it is the place of the section, or a free one
  pub chosen : place_for s w m < s.count → (holds (place_at s (place_for s w m)) w m ≡ true) ⊎ ((place_at s (place_for s w m)).used ≡ false)
  unfolding place_among
  chosen = go (is_held s w m) refl
    where
      go : (b : Bool) → is_held s w m ≡ b → pick b (place_of s w m) (free_place s) < s.count
          → (holds (place_at s (pick b (place_of s w m) (free_place s))) w m ≡ true) ⊎ ((place_at s (pick b (place_of s w m) (free_place s))).used ≡ false)
      go true e l = inl (first_has (λ i. holds (place_at s i) w m) s.count l)
      go false e l = inr (not_e (place_at s (free_place s)).used (first_has (λ i. not (place_at s i).used) s.count l))

  -- no other place holds the section
  pub only : (k : ℕ) → k < s.count → (k ≡ place_for s w m → ⊥) → holds (place_at s k) w m ≡ false
  unfolding place_among
  only k a n = isnt (holds (place_at s k) w m) (λ e.
      let p : ℕ → Bool = (λ i. holds (place_at s i) w m) in
      let t : is_held s w m ≡ true = any_at p s.count k a e in
      let f : place_of s w m < s.count = ltb-true (place_of s w m) s.count (sym (any_first p s.count) ∙ t) in
      n (one_place s area r w m k (place_of s w m) a f e (first_has p s.count f)
      ∙ sym (ap (λ (b : Bool). pick b (place_of s w m) (free_place s)) t)))

  -- an open watch that takes a number below its quota has a place for it
  pub place_below : w < s.records → (watch_at s w).live ≡ true → m < (watch_at s w).quota → place_for s w m < s.count
  unfolding place_among
  place_below l v q = ⊎_elim
      (λ e. subst (λ (b : Bool). pick b (place_of s w m) (free_place s) < s.count) (sym e) (ltb-true (place_of s w m) s.count (sym (any_first (λ i. holds (place_at s i) w m) s.count) ∙ e)))
      (λ e. subst (λ (b : Bool). pick b (place_of s w m) (free_place s) < s.count) (sym e) (room_left s area r w m l v q (none_at (λ i. holds (place_at s i) w m) s.count e)))
      (both (is_held s w m))

module _ (s : Shelf) (area : ℕ) (r : Rules s area) (w m n : ℕ) (below : place_for s w m < s.count) where
  abbrev j : ℕ
  j = place_for s w m

  abbrev u : Shelf
  u = stored s w m n

  pub stored_same : place_at u j ≡ keeping w m n
  stored_same = get_or-set_same s.places j (keeping w m n) blank_place (omega (arith, below, r.size.count_64, r.size.places_64))

  pub stored_other : (i : ℕ) → (i ≡ j → ⊥) → place_at u i ≡ place_at s i
  stored_other i e = get_or-set_other s.places j i (keeping w m n) blank_place e

  -- what holds of the new record and of every old one holds of every record
  each_place : (P : ℕ → Place → Type 0) → P j (keeping w m n) → ((i : ℕ) → (i ≡ j → ⊥) → P i (place_at s i)) → (i : ℕ) → P i (place_at u i)
  each_place P new old i = ⊎_elim
      (λ e. subst (λ (k : ℕ). P k (place_at u k)) (sym e) (subst (P j) (sym stored_same) new))
      (λ e. subst (P i) (sym (stored_other i e)) (old i e))
      (same_or_not i j)

  module _ (l : w < s.records) (v : (watch_at s w).live ≡ true) (g : (watch_at s w).edition.heard ≡ true) (up : m ≤ (watch_at s w).edition.last) (small : n ≤ 4096) where
    -- nothing else holds the new number
    new_first : (k : ℕ) → (k ≡ j → ⊥) → k < s.count → (place_at s k).used ≡ true → holds (keeping w m n) (place_at s k).watch (place_at s k).number ≡ false
    new_first k e a f = isnt (holds (keeping w m n) (place_at s k).watch (place_at s k).number) (λ t.
        let o = holds_parts (keeping w m n) (place_at s k).watch (place_at s k).number t in
        true_false (holds (place_at s k) w m) (holds_i (place_at s k) w m f (sym o.1) (sym o.2)) (only s area r w m k a e))

    once_put : (i k : ℕ) → i < k → k < s.count → (place_at u k).used ≡ true → holds (place_at u i) (place_at u k).watch (place_at u k).number ≡ false
    once_put i k = each_place (λ k q. i < k → k < s.count → q.used ≡ true → holds (place_at u i) q.watch q.number ≡ false)
        (λ a b f. each_place (λ x p. x < j → holds p w m ≡ false) (λ c. absurd (omega (arith, c))) (λ x e c. only s area r w m x (omega (arith, below, c)) e) i a)
        (λ k e a b f. each_place (λ x p. x < k → holds p (place_at s k).watch (place_at s k).number ≡ false) (λ c. new_first k e b f) (λ x e' c. r.once x k c b f) i a)
        k

    pub stored_rules : Rules u area
    stored_rules = record {
      size = record {
        watches_16 = r.size.watches_16;
        places_64 = length-set s.places j (keeping w m n) ∙ r.size.places_64;
        count_1 = r.size.count_1;
        count_64 = r.size.count_64;
        records_1 = r.size.records_1;
        records_16 = r.size.records_16;
        area_is = r.size.area_is;
      };
      keys_differ_lem = r.keys_differ_lem;
      promise = r.promise;
      owned = λ i a f. each_place (λ i p. i < s.count → p.used ≡ true → Owned u p) (λ _ _. record { below = l; live = v; heard = g; upto = up })
          (λ i e b t. let o : Owned s (place_at s i) = r.owned i b t in record { below = o.below; live = o.live; heard = o.heard; upto = o.upto }) i a f;
      once = once_put;
      last_below = r.last_below;
      short = each_place (λ i p. i < s.count → p.used ≡ true → p.length ≤ 4096) (λ _ _. small) (λ i e b t. r.short i b t);
      range = r.range;
    }
