-- An accepted opening: what it has passed, that the rules are kept, and that the key's view is a fresh one and nothing else changes.
use Rattle.std.specs.Prelude.{Some}
use Prim.Native.Nat.{◌+◌, ◌<◌, ◌≤◌, ℕ}
use mathlib.Core.Path.{◌∙◌, ◌≡◌, ap, refl, sym}
use mathlib.Core.Bool.{false, not, true}
use mathlib.Core.List.{List}
use native.Mathlib.Omega.{arith}
use lib.ListN.{length}
use borrow.Author.Tests.{leb-true, ltb-true}
use Rattle.logic.specs.Loops.{◌&◌}
use Rattle.logic.proofs.LoopLaws.{any_first, first_has, isnt, none_at, not_e, true_false}
use Rattle.refusal.specs.Outcomes.{resulted}
use Rattle.shelf_state.specs.Records.{is_of, same_key, watch_at}
use Rattle.shelf_state.specs.Searches.{free_record, set_watch, watched}
use Rattle.shelf_state.specs.Rules.{in_range, obeys, promised, quota_of}
use Rattle.shelf_state.specs.declared.records.Asked.{Asked}
use Rattle.shelf_state.specs.declared.records.Shelf.{Shelf}
use Rattle.shelf_state.specs.declared.records.Watch.{Watch}
use Rattle.shelf_state.proofs.RecordLaws.{is_of_i, is_of_shut, two_keys}
use Rattle.shelf_state.proofs.RuleLaws.{Rules, obeys_i, quota_live, quota_shut, rules, shut_holds}
use Rattle.shelf_state.proofs.WatchLaws.{Fits, at_other, at_same, new_rules}
use Rattle.shelf.specs.Calls.{answered, fresh, opened, opened_in_range}
use Rattle.shelf.specs.Steps.{State}
use Rattle.shelf.specs.Views.{Opening, fresh_view, kept_at, next_view, opens, view, view_at}
use Rattle.shelf.proofs.CallLaws.{go_on, passed}
use Rattle.shelf_laws.specs.Promised.{quota_closed, quota_opened}
use Rattle.shelf_laws.specs.Stays.{OpeningKeeps}
use Rattle.shelf_laws.proofs.MoveLaws.{Moves, by_key, other_key, own_key, promised_moves}
use Rattle.shelf_laws.proofs.ViewLaws.{kept_none}

-- the shelf after an accepted opening
abbrev pub opened_to : Shelf → Asked → ℕ → Shelf
opened_to s a q = set_watch s (free_record s) (fresh a q)

pub record Opens (s : Shelf) (area : ℕ) (a : Asked) (q : ℕ) : Type 0 where
  pub ok : obeys s area ≡ true
  pub range : in_range a q ≡ true
  pub new : watched s a ≡ false
  pub free : free_record s < s.records
  pub room : promised s + q ≤ s.count
  pub is : opened s area a q ≡ answered tt (opened_to s a q)

pub opening_passed : (s : Shelf) (area : ℕ) (a : Asked) (q : ℕ) → (opened s area a q).outcome ≡ resulted tt → Opens s area a q
unfolding opened opened_in_range
opening_passed s area a q e =
    let p = passed 14 s _ _ tt e in
    let p₁ = passed 15 s _ _ tt p.1 in
    let p₂ = passed 19 s _ _ tt p₁.1 in
    let p₃ = passed 20 s _ _ tt p₂.1 in
    let p₄ = passed 21 s _ _ tt p₃.1 in
    record {
      ok = p.0;
      range = p₁.0;
      new = not_e (watched s a) p₂.0;
      free = ltb-true (free_record s) s.records (sym (any_first (λ i. not (watch_at s i).live) s.records) ∙ p₃.0);
      room = leb-true (promised s + q) s.count p₄.0;
      is = sym (go_on 14 s _ _ p.0 (go_on 15 s _ _ p₁.0 (go_on 19 s _ _ p₂.0 (go_on 20 s _ _ p₃.0 (go_on 21 s _ _ p₄.0 refl)))));
    }

module _ (s : Shelf) (area : ℕ) (a : Asked) (q : ℕ) (f : Opens s area a q) where
  abbrev w : ℕ
  w = free_record s

  abbrev t : Shelf
  t = opened_to s a q

  h : Rules s area
  h = rules s area f.ok

  shut : (watch_at s w).live ≡ false
  shut = not_e (watch_at s w).live (first_has (λ i. not (watch_at s i).live) s.records f.free)

  unwatched : (i : ℕ) → i < s.records → is_of (watch_at s i) a ≡ false
  unwatched = none_at (λ i. is_of (watch_at s i) a) s.records f.new

  fits : Fits s w (fresh a q)
  fits = record {
    below = f.free;
    nobody = λ i m. shut_holds s area h w i m shut;
    range = λ _. f.range;
    last_below = λ _ g. true_false false g refl;
    apart = λ i m _ _. unwatched i m;
    promise = omega (arith, f.room, quota_live (fresh a q) refl);
  }

  same : watch_at t w ≡ fresh a q
  same = at_same s area h w (fresh a q) fits

  opened_obeys : obeys t area ≡ true
  opened_obeys = obeys_i t area (new_rules s area h w (fresh a q) fits)

  pub opened_keeps : OpeningKeeps s t w
  opened_keeps = record {
    others = record { records_same = refl; count_same = refl; watches_stay = at_other s area h w (fresh a q) fits };
    inside = f.free;
    places_stay = λ i. refl;
  }

  opened_promises : promised t ≡ promised s + q
  opened_promises = omega (
    arith,
    promised_moves s t w opened_keeps.others f.free,
    quota_shut (watch_at s w) shut,
    quota_live (fresh a q) refl,
    ap quota_of same,
  )

  own_is : is_of (fresh a q) a ≡ true
  own_is = is_of_i (fresh a q) a refl refl

  module _ (b : List ℕ) where
    fresh_is : view_at t b w ≡ fresh_view q
    unfolding view_at kept_at
    fresh_is = λ i. record { quota = (same i).quota; edition = (same i).edition; kept = λ m. kept_none s b w m fits.nobody i }

    opened_own : view t b a ≡ Some (fresh_view q)
    opened_own =
        own_key s t w opened_keeps.others b a f.free (ap (λ (y : Watch). is_of y a) same ∙ own_is) (λ i m. unwatched i (omega (arith, m, f.free)))
        ∙ ap Some fresh_is

    -- neither the free record nor the new one has another key
    opened_other : (k : Asked) → same_key k a ≡ false → view t b k ≡ view s b k
    unfolding kept_at
    opened_other k n = other_key s t w opened_keeps.others b b (λ i m _. refl) k
        (is_of_shut (watch_at s w) k shut)
        (ap (λ (y : Watch). is_of y k) same ∙ isnt (is_of (fresh a q) k) (λ e. two_keys (fresh a q) k a n e own_is))

pub opening_moves : (x : State) (o : Opening) → Opens x.shelf (length x.area) o.key o.quota
    → Moves x (opens o) true (record { shelf = opened_to x.shelf o.key o.quota; area = x.area })
unfolding next_view quota_closed quota_opened ◌&◌
opening_moves x o f =
    let s : Shelf = x.shelf in
    let n : ℕ = length x.area in
    record {
      keeps = opened_obeys s n o.key o.quota f;
      size = refl;
      views = by_key (λ _. Some (fresh_view o.quota)) x _ o.key (opened_own s n o.key o.quota f x.area) (opened_other s n o.key o.quota f x.area);
      promises = omega (arith, opened_promises s n o.key o.quota f);
    }
