-- A watch record is replaced: what is needed for the rules to be kept. Opening, closing and a change of edition rest on it.
use Prim.Native.Nat.{◌+◌, ◌<◌, ◌≤◌, ℕ}
use mathlib.Core.Path.{◌∙◌, ◌≡◌, ap, subst, sym}
use mathlib.Core.Bool.{false, true}
use mathlib.Core.Logic.{⊎_elim}
use native.Mathlib.Omega.{arith}
use lib.ListN.{length-set}
use lib.Seq.{get_or-set_other, get_or-set_same}
use Rattle.logic.proofs.CountLaws.{sum_at}
use Rattle.logic.proofs.LoopLaws.{isnt, same_or_not, true_false}
use Rattle.shelf_state.proofs.RecordLaws.{is_of_i, is_of_key, is_of_live, for_i}
use Rattle.shelf_state.proofs.RuleLaws.{Owned, Rules}
use Rattle.shelf_state.specs.Records.{asked, blank_watch, is_of, place_at, holds_for, watch_at}
use Rattle.shelf_state.specs.Searches.{set_watch}
use Rattle.shelf_state.specs.Rules.{in_range, promised, quota_of}
use Rattle.shelf_state.specs.declared.records.Shelf.{Shelf}
use Rattle.shelf_state.specs.declared.records.Watch.{Watch}

-- what the new record needs
pub record Fits (s : Shelf) (w : ℕ) (x : Watch) : Type 0 where
  pub below : w < s.records
  pub nobody : (i : ℕ) → i < s.count → holds_for (place_at s i) w ≡ false
  pub range : x.live ≡ true → in_range (asked x.key) x.quota ≡ true
  pub last_below : x.live ≡ true → x.edition.heard ≡ true → x.edition.last < x.quota
  pub apart : (i : ℕ) → i < s.records → (i ≡ w → ⊥) → x.live ≡ true → is_of (watch_at s i) (asked x.key) ≡ false
  pub promise : promised s + quota_of x ≤ s.count + quota_of (watch_at s w)

module _ (s : Shelf) (area : ℕ) (h : Rules s area) (w : ℕ) (x : Watch) (f : Fits s w x) where
  abbrev t : Shelf
  t = set_watch s w x

  pub at_same : watch_at t w ≡ x
  at_same = get_or-set_same s.watches w x blank_watch (omega (arith, f.below, h.size.records_16, h.size.watches_16))

  pub at_other : (i : ℕ) → (i ≡ w → ⊥) → watch_at t i ≡ watch_at s i
  at_other i n = get_or-set_other s.watches w i x blank_watch n

  -- what holds of the new record and of every other one holds of every record
  each_watch : (P : ℕ → Watch → Type 0) → P w x → ((i : ℕ) → (i ≡ w → ⊥) → P i (watch_at s i)) → (i : ℕ) → P i (watch_at t i)
  each_watch P new old i = ⊎_elim
      (λ e. subst (λ (k : ℕ). P k (watch_at t k)) (sym e) (subst (P w) (sym at_same) new))
      (λ e. subst (P i) (sym (at_other i e)) (old i e))
      (same_or_not i w)

  -- the places promised move by the two records' quotas
  pub promise_moves : promised t + quota_of (watch_at s w) ≡ promised s + quota_of x
  promise_moves = omega (
    arith,
    ap quota_of at_same,
    sum_at s.records (λ i. quota_of (watch_at t i)) (λ i. quota_of (watch_at s i)) w f.below (λ k n. ap quota_of (at_other k n)),
  )

  owned_new : (i : ℕ) → i < s.count → (place_at s i).used ≡ true → Owned t (place_at s i)
  owned_new i a u =
      let o : Owned s (place_at s i) = h.owned i a u in
      let n : (place_at s i).watch ≡ w → ⊥ = (λ q. true_false (holds_for (place_at s i) w) (for_i (place_at s i) w u q) (f.nobody i a)) in
      let e : watch_at t (place_at s i).watch ≡ watch_at s (place_at s i).watch = at_other (place_at s i).watch n in
      record {
        below = o.below;
        live = ap (λ (y : Watch). y.live) e ∙ o.live;
        heard = ap (λ (y : Watch). y.edition.heard) e ∙ o.heard;
        upto = subst (λ (y : Watch). (place_at s i).number ≤ y.edition.last) (sym e) o.upto;
      }

  -- an old record that comes after the new one has another key
  new_apart : (j : ℕ) → j < s.records → (j ≡ w → ⊥) → (watch_at s j).live ≡ true → is_of x (asked (watch_at s j).key) ≡ false
  new_apart j b n v = isnt (is_of x (asked (watch_at s j).key)) (λ e.
      true_false (is_of (watch_at s j) (asked x.key))
      (is_of_i (watch_at s j) (asked x.key) v (sym (is_of_key x (asked (watch_at s j).key) e))) (f.apart j b n (is_of_live x (asked (watch_at s j).key) e)))

  keys_new : (i j : ℕ) → i < j → j < s.records → (watch_at t j).live ≡ true → is_of (watch_at t i) (asked (watch_at t j).key) ≡ false
  keys_new i j = each_watch (λ j y. i < j → j < s.records → y.live ≡ true → is_of (watch_at t i) (asked y.key) ≡ false)
      (λ a b v. subst (λ (z : Watch). is_of z (asked x.key) ≡ false) (sym (at_other i (λ e. omega (arith, a, e)))) (f.apart i (omega (arith, a, b)) (λ e. omega (arith, a, e)) v))
      (λ j n a b v. each_watch (λ i z. i < j → is_of z (asked (watch_at s j).key) ≡ false) (λ c. new_apart j b n v) (λ i m c. h.keys_differ_lem i j c b v) i a)
      j

  pub new_rules : Rules t area
  new_rules = record {
    size = record {
      watches_16 = length-set s.watches w x ∙ h.size.watches_16;
      places_64 = h.size.places_64;
      count_1 = h.size.count_1;
      count_64 = h.size.count_64;
      records_1 = h.size.records_1;
      records_16 = h.size.records_16;
      area_is = h.size.area_is;
    };
    keys_differ_lem = keys_new;
    promise = omega (arith, f.promise, promise_moves);
    owned = owned_new;
    once = h.once;
    last_below = each_watch (λ i y. i < s.records → y.live ≡ true → y.edition.heard ≡ true → y.edition.last < y.quota) (λ a v g. f.last_below v g) (λ i n a v g. h.last_below i a v g);
    short = h.short;
    range = each_watch (λ i y. i < s.records → y.live ≡ true → in_range (asked y.key) y.quota ≡ true) (λ a v. f.range v) (λ i n a v. h.range i a v);
  }
