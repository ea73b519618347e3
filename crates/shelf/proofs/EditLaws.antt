-- Another edition is heard: the watch's sections are dropped, its record says the edition, and the rules are kept.
use Prim.Native.Nat.{◌<◌, ℕ}
use mathlib.Core.Path.{◌∙◌, ◌≡◌, ap, ap₂, refl, sym}
use mathlib.Core.Bool.{Bool, false, true}
use native.Mathlib.Omega.{arith}
use borrow.Author.Tests.{eqb-true}
use Rattle.logic.specs.Choices.{pick}
use Rattle.section.specs.declared.header.Header.{Header}
use Rattle.shelf_state.proofs.DropLaws.{drop_nobody, drop_rules, place_is}
use Rattle.logic.proofs.LoopLaws.{and_left, and_right, isnt}
use Rattle.shelf_state.proofs.RecordLaws.{is_of_i}
use Rattle.shelf_state.proofs.RuleLaws.{Rules, one_watch}
use Rattle.shelf_state.proofs.WatchLaws.{Fits, at_other, at_same, new_rules}
use Rattle.shelf_state.specs.Records.{asked, is_of, place_at, watch_at}
use Rattle.shelf_state.specs.Searches.{dropped, release, set_watch}
use Rattle.shelf_state.specs.Rules.{quota_of}
use Rattle.shelf_state.specs.declared.records.Shelf.{Shelf}
use Rattle.shelf_state.specs.declared.records.Edition.{Edition}
use Rattle.shelf_state.specs.declared.records.Watch.{Watch}
use Rattle.shelf.specs.Delivery.{edited, hearing}
use Rattle.shelf.specs.Views.{edition_of, same_edition}

pub edition_is : (x : Edition) (h : Header) → same_edition x h ≡ true → x ≡ edition_of h
unfolding same_edition
edition_is x h e =
    ap₂ (λ (g : Bool) (n : ℕ). record { heard = g; version = n; last = x.last }) (and_left _ _ e) (eqb-true _ _ (and_left _ _ (and_right _ _ e)))
    ∙ ap (λ (n : ℕ). record { heard = true; version = h.version; last = n }) (eqb-true _ _ (and_right _ _ (and_right _ _ e)))

-- the same edition is heard: the record stays
pub hearing_same : (x : Watch) (h : Header) → same_edition x.edition h ≡ true → hearing x h ≡ x
hearing_same x h e = ap (λ (y : Edition). record { live = x.live; key = x.key; quota = x.quota; edition = y }) (sym (edition_is x.edition h e))

quota_hearing : (x : Watch) (h : Header) → quota_of (hearing x h) ≡ quota_of x
unfolding quota_of
quota_hearing x h = refl

module _ (s : Shelf) (area : ℕ) (r : Rules s area) (w : ℕ) (h : Header)
    (l : w < s.records) (v : (watch_at s w).live ≡ true) (q : h.last < (watch_at s w).quota) where
  abbrev d : Shelf
  d = dropped s w

  abbrev y : Watch
  y = hearing (watch_at s w) h

  fits : Fits d w y
  fits = record {
    below = l;
    nobody = drop_nobody s area r w;
    range = λ _. r.range w l v;
    last_below = λ _ _. q;
    apart = λ i a n _. isnt (is_of (watch_at s i) (asked (watch_at s w).key)) (λ e.
        n (one_watch s area r (asked (watch_at s w).key) i w a l e (is_of_i (watch_at s w) (asked (watch_at s w).key) v refl)));
    promise = omega (arith, r.promise, quota_hearing (watch_at s w) h);
  }

  -- what holds whichever way the edition goes
  pub record Edited (t : Shelf) : Type 0 where
    pub rules : Rules t area
    pub records_same : t.records ≡ s.records
    pub count_same : t.count ≡ s.count
    pub own : watch_at t w ≡ hearing (watch_at s w) h
    pub other : (i : ℕ) → (i ≡ w → ⊥) → watch_at t i ≡ watch_at s i
    -- the places: those of the same edition stay, those of another are released
    pub places : (i : ℕ) → i < s.count → place_at t i ≡ pick (same_edition (watch_at s w).edition h) (place_at s i) (release w (place_at s i))

  pub edited_facts : Edited (edited s w h)
  unfolding edited
  edited_facts = go (same_edition (watch_at s w).edition h) refl
    where
      go : (b : Bool) → same_edition (watch_at s w).edition h ≡ b → Edited (pick b s (set_watch d w y))
      go true e =
          record {
            rules = r;
            records_same = refl;
            count_same = refl;
            other = λ i n. refl;
            own = sym (hearing_same (watch_at s w) h e);
            places = λ i a. ap (λ (b : Bool). pick b (place_at s i) (release w (place_at s i))) (sym e);
          }
      go false e = record {
        rules = new_rules d area (drop_rules s area r w) w y fits;
        records_same = refl;
        count_same = refl;
        own = at_same d area (drop_rules s area r w) w y fits;
        other = at_other d area (drop_rules s area r w) w y fits;
        places = λ i a. place_is s area r w i a ∙ ap (λ (b : Bool). pick b (place_at s i) (release w (place_at s i))) (sym e);
      }
