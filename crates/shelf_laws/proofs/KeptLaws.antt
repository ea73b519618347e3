-- What dropped sections, a change of edition and a stored section leave of the places and of what every watch keeps.
use Rattle.std.specs.Prelude.{None, Some}
use Prim.Native.Nat.{◌*◌, ◌+◌, ◌<◌, ◌≤◌, ℕ}
use mathlib.Core.Path.{◌∙◌, ◌≡◌, ap, refl, subst, sym}
use mathlib.Core.Bool.{Bool, false, true}
use mathlib.Core.List.{List}
use mathlib.Core.Logic.{◌⊎◌, ⊎_elim}
use native.Mathlib.Omega.{arith}
use lib.Dec.{ltb}
use lib.ListN.{length}
use lib.Seq.{paste}
use borrow.Author.Tests.{ltb-false, ltb-true}
use Rattle.logic.specs.Choices.{pick}
use Rattle.logic.proofs.LoopLaws.{both, each_past, isnt, same_or_not, true_false}
use Rattle.section.specs.declared.header.Header.{Header}
use Rattle.shelf_state.specs.Records.{blank_place, holds, holds_for, place_at, watch_at}
use Rattle.shelf_state.specs.Searches.{dropped, release, set_watch}
use Rattle.shelf_state.specs.declared.records.Place.{Place}
use Rattle.shelf_state.specs.declared.records.Shelf.{Shelf}
use Rattle.shelf_state.proofs.DropLaws.{drop_nobody, place_is, release_other}
use Rattle.shelf_state.proofs.RecordLaws.{holds_i, holds_parts}
use Rattle.shelf_state.proofs.RuleLaws.{Rules}
use Rattle.shelf.specs.Delivery.{edited, hearing, keeping, place_for, stored}
use Rattle.shelf.specs.Views.{bytes_at, kept_at, same_edition}
use Rattle.shelf.proofs.PlaceLaws.{chosen, only, stored_other, stored_same}
use Rattle.shelf_laws.proofs.AreaLaws.{other_place, paste_there}
use Rattle.shelf_laws.proofs.ViewLaws.{at_only, kept_none, kept_same}

-- ---- a watch's sections are dropped; another edition is heard
release_not : (w : ℕ) (p : Place) → holds_for p w ≡ false → release w p ≡ p
unfolding release
release_not w p e = rw e

module _ (s : Shelf) (n : ℕ) (r : Rules s n) (w : ℕ) where
  -- a place beyond the sizes in use, or of another watch, stays
  pub dropped_stays : (i : ℕ) → (s.count ≤ i) ⊎ (holds_for (place_at s i) w ≡ false) → place_at (dropped s w) i ≡ place_at s i
  dropped_stays i = ⊎_elim past
      (λ e. ⊎_elim (λ l. place_is s n r w i (ltb-true i s.count l) ∙ release_not w (place_at s i) e) (λ l. past (ltb-false i s.count l)) (both (ltb i s.count)))
    where
      past : s.count ≤ i → place_at (dropped s w) i ≡ place_at s i
      past l = each_past (release w) blank_place s.count s.places i l

  pub dropped_other : (area : List ℕ) (x m : ℕ) → (x ≡ w → ⊥) → kept_at (dropped s w) area x m ≡ kept_at s area x m
  dropped_other area x m ne = kept_same s (dropped s w) area area x m refl
      (λ i a. ap (λ (p : Place). holds p x m) (place_is s n r w i a) ∙ (release_other w x (place_at s i) m ne).0)
      (λ i a f. ap (λ (p : Place). bytes_at area i p.length) (place_is s n r w i a ∙ (release_other w x (place_at s i) m ne).1 f))

  module _ (h : Header) where
    -- the shelf by the test of the edition
    abbrev edited_by : Bool → Shelf
    edited_by b = pick b s (set_watch (dropped s w) w (hearing (watch_at s w) h))

    pub edited_stays : (i : ℕ) → (s.count ≤ i) ⊎ (holds_for (place_at s i) w ≡ false) → place_at (edited s w h) i ≡ place_at s i
    unfolding edited
    edited_stays i e = go (same_edition (watch_at s w).edition h)
      where
        go : (b : Bool) → place_at (edited_by b) i ≡ place_at s i
        go true = refl
        go false = dropped_stays i e

    pub edited_own : (area : List ℕ) (m : ℕ) → kept_at (edited s w h) area w m ≡ (pick (same_edition (watch_at s w).edition h) (kept_at s area w) (λ _. None)) m
    unfolding edited kept_at
    edited_own area m = go (same_edition (watch_at s w).edition h)
      where
        go : (b : Bool) → kept_at (edited_by b) area w m ≡ (pick b (kept_at s area w) (λ _. None)) m
        go true = refl
        go false = kept_none (dropped s w) area w m (drop_nobody s n r w)

    pub edited_other : (area : List ℕ) (x m : ℕ) → (x ≡ w → ⊥) → kept_at (edited s w h) area x m ≡ kept_at s area x m
    unfolding edited kept_at
    edited_other area x m ne = go (same_edition (watch_at s w).edition h)
      where
        go : (b : Bool) → kept_at (edited_by b) area x m ≡ kept_at s area x m
        go true = refl
        go false = dropped_other area x m ne

-- ---- a section is stored
module _ (s : Shelf) (area b : List ℕ) (r : Rules s (length area)) (w m : ℕ) (small : length b ≤ 4096) (below : place_for s w m < s.count) where
  abbrev j : ℕ
  j = place_for s w m

  abbrev u : Shelf
  u = stored s w m (length b)

  abbrev area' : List ℕ
  area' = paste area (j * 4096) b (length b)

  fits : (i n : ℕ) → i < s.count → n ≤ 4096 → i * 4096 + n ≤ length area
  fits i n l k = omega (arith, r.size.area_is, l, k)

  new : place_at u j ≡ keeping w m (length b)
  new = stored_same s (length area) r w m (length b) below

  old : (i : ℕ) → (i ≡ j → ⊥) → place_at u i ≡ place_at s i
  old = stored_other s (length area) r w m (length b) below

  pub put_own : kept_at u area' w m ≡ Some (record { bytes = b })
  unfolding kept_at
  put_own =
      at_only s.count (λ i. holds (place_at u i) w m) (λ i. record { bytes = bytes_at area' i (place_at u i).length }) j below
      (ap (λ (p : Place). holds p w m) new ∙ holds_i (keeping w m (length b)) w m refl refl refl)
      (λ k l. ap (λ (p : Place). holds p w m) (old k (λ e. omega (arith, l, e))) ∙ only s (length area) r w m k (omega (arith, l, below)) (λ e. omega (arith, l, e)))
      ∙ ap (λ (p : Place). Some (record { bytes = bytes_at area' j p.length })) new
      ∙ ap (λ (x : List ℕ). Some (record { bytes = x })) (paste_there area (j * 4096) b (fits j (length b) below small))

  module _ (x n : ℕ) (ne : (x ≡ w) × (n ≡ m) → ⊥) where
    -- neither the old nor the new record of the place holds another section
    old_not : holds (place_at s j) x n ≡ false
    old_not = isnt (holds (place_at s j) x n) (λ e.
        let p = holds_parts (place_at s j) x n e in
        ⊎_elim
        (λ f. let o = holds_parts (place_at s j) w m f in ne (sym p.1 ∙ o.1, sym p.2 ∙ o.2))
        (λ f. true_false (place_at s j).used p.0 f)
        (chosen s (length area) r w m below))

    new_not : holds (keeping w m (length b)) x n ≡ false
    new_not = isnt (holds (keeping w m (length b)) x n) (λ e. let p = holds_parts (keeping w m (length b)) x n e in ne (sym p.1, sym p.2))

    not_j : (i : ℕ) → holds (place_at s i) x n ≡ true → i ≡ j → ⊥
    not_j i t e = true_false (holds (place_at s j) x n) (subst (λ (k : ℕ). holds (place_at s k) x n ≡ true) e t) old_not

    pub put_other : kept_at u area' x n ≡ kept_at s area x n
    put_other = kept_same s u area area' x n refl
        (λ i l. ⊎_elim
        (λ e. subst (λ (k : ℕ). holds (place_at u k) x n ≡ holds (place_at s k) x n) (sym e) (ap (λ (p : Place). holds p x n) new ∙ new_not ∙ sym old_not))
        (λ e. ap (λ (p : Place). holds p x n) (old i e))
        (same_or_not i j))
        (λ i l t.
        let sh : (place_at s i).length ≤ 4096 = r.short i l (holds_parts (place_at s i) x n t).0 in
        ap (λ (p : Place). bytes_at area' i p.length) (old i (not_j i t))
        ∙ other_place area b j i (place_at s i).length (not_j i t) small sh (fits j (length b) below small) (fits i (place_at s i).length l sh))
