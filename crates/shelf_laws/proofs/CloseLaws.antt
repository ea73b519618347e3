-- An accepted closing: what it has passed, that the rules are kept, and that the key has no view and no other view or place changes.
use Rattle.std.specs.Prelude.{None}
use Prim.Native.Nat.{◌+◌, ◌<◌, ℕ}
use mathlib.Core.Path.{◌∙◌, ◌≡◌, ap, refl, subst, sym}
use mathlib.Core.Bool.{false, true}
use mathlib.Core.List.{List}
use mathlib.Core.Logic.{⊎_elim}
use native.Mathlib.Omega.{arith}
use lib.ListN.{length}
use Rattle.logic.specs.Loops.{◌&◌}
use Rattle.logic.proofs.LoopLaws.{isnt, same_or_not, true_false}
use Rattle.refusal.specs.Outcomes.{resulted}
use Rattle.shelf_state.specs.Records.{blank_watch, is_of, same_key, watch_at}
use Rattle.shelf_state.specs.Searches.{dropped, set_watch, watch_of, watched}
use Rattle.shelf_state.specs.Rules.{obeys, promised, quota_of}
use Rattle.shelf_state.specs.declared.records.Asked.{Asked}
use Rattle.shelf_state.specs.declared.records.Shelf.{Shelf}
use Rattle.shelf_state.specs.declared.records.Watch.{Watch}
use Rattle.shelf_state.proofs.DropLaws.{drop_nobody, drop_rules}
use Rattle.shelf_state.proofs.RecordLaws.{is_of_live, is_of_shut, two_keys}
use Rattle.shelf_state.proofs.RuleLaws.{Rules, obeys_i, one_watch, quota_live, quota_shut, rules}
use Rattle.shelf_state.proofs.WatchLaws.{Fits, at_other, at_same, new_rules}
use Rattle.shelf.specs.Calls.{answered, closed}
use Rattle.shelf.specs.Steps.{State}
use Rattle.shelf.specs.Views.{Closing, closes, kept_at, next_view, view, view_at}
use Rattle.shelf.proofs.CallLaws.{go_on, passed}
use Rattle.shelf_laws.specs.Promised.{quota_closed, quota_in, quota_opened}
use Rattle.shelf_laws.specs.Stays.{ClosingKeeps}
use Rattle.shelf_laws.proofs.KeptLaws.{dropped_other, dropped_stays}
use Rattle.shelf_laws.proofs.MoveLaws.{Moves, by_key, other_key, promised_moves}
use Rattle.shelf_laws.proofs.ViewLaws.{found, own_watch, seen, view_none}

-- the shelf after an accepted closing
abbrev pub closed_to : Shelf → Asked → Shelf
closed_to s a = set_watch (dropped s (watch_of s a)) (watch_of s a) blank_watch

pub record Closes (s : Shelf) (area : ℕ) (a : Asked) : Type 0 where
  pub ok : obeys s area ≡ true
  pub open_is : watched s a ≡ true
  pub is : closed s area a ≡ answered tt (closed_to s a)

pub closing_passed : (s : Shelf) (area : ℕ) (a : Asked) → (closed s area a).outcome ≡ resulted tt → Closes s area a
unfolding closed
closing_passed s area a e =
    let p = passed 14 s _ _ tt e in
    let p₁ = passed 17 s _ _ tt p.1 in
    record { ok = p.0; open_is = p₁.0; is = sym (go_on 14 s _ _ p.0 (go_on 17 s _ _ p₁.0 refl)) }

module _ (s : Shelf) (area : ℕ) (a : Asked) (f : Closes s area a) where
  abbrev w : ℕ
  w = watch_of s a

  abbrev t : Shelf
  t = closed_to s a

  h : Rules s area
  h = rules s area f.ok

  l : w < s.records
  l = found s a f.open_is

  own_is : is_of (watch_at s w) a ≡ true
  own_is = own_watch s a l

  fits : Fits (dropped s w) w blank_watch
  fits = record {
    below = l;
    nobody = drop_nobody s area h w;
    range = λ v. true_false false v refl;
    last_below = λ v. true_false false v refl;
    apart = λ i m n v. true_false false v refl;
    promise = omega (arith, h.promise, quota_shut blank_watch refl);
  }

  same : watch_at t w ≡ blank_watch
  same = at_same (dropped s w) area (drop_rules s area h w) w blank_watch fits

  closed_obeys : obeys t area ≡ true
  closed_obeys = obeys_i t area (new_rules (dropped s w) area (drop_rules s area h w) w blank_watch fits)

  pub closed_keeps : ClosingKeeps s t w
  closed_keeps = record {
    others = record { records_same = refl; count_same = refl; watches_stay = at_other (dropped s w) area (drop_rules s area h w) w blank_watch fits };
    inside = l;
    places_stay = dropped_stays s area h w;
  }

  closed_promises : promised t + (watch_at s w).quota ≡ promised s
  closed_promises = omega (
    arith,
    promised_moves s t w closed_keeps.others l,
    quota_live (watch_at s w) (is_of_live (watch_at s w) a own_is),
    quota_shut blank_watch refl,
    ap quota_of same,
  )

  shut : (k : Asked) → is_of (watch_at t w) k ≡ false
  shut k = ap (λ (y : Watch). is_of y k) same ∙ is_of_shut blank_watch k refl

  closed_own : (b : List ℕ) → view t b a ≡ None
  closed_own b = view_none t b a (λ i m. ⊎_elim
      (λ e. subst (λ (j : ℕ). is_of (watch_at t j) a ≡ false) (sym e) (shut a))
      (λ n. ap (λ (y : Watch). is_of y a) (closed_keeps.others.watches_stay i n) ∙ isnt (is_of (watch_at s i) a) (λ e. n (one_watch s area h a i w m l e own_is)))
      (same_or_not i w))

  closed_other : (b : List ℕ) (k : Asked) → same_key k a ≡ false → view t b k ≡ view s b k
  unfolding kept_at
  closed_other b k n = other_key s t w closed_keeps.others b b (dropped_other s area h w b) k
      (isnt (is_of (watch_at s w) k) (λ e. two_keys (watch_at s w) k a n e own_is)) (shut k)

  closed_quota : (b : List ℕ) → quota_in (view s b a) ≡ (watch_at s w).quota
  unfolding view_at
  closed_quota b = ap quota_in (seen s b a f.open_is)

pub closing_moves : (x : State) (c : Closing) → Closes x.shelf (length x.area) c.key
    → Moves x (closes c) true (record { shelf = closed_to x.shelf c.key; area = x.area })
unfolding next_view quota_closed quota_opened ◌&◌
closing_moves x c f =
    let s : Shelf = x.shelf in
    let n : ℕ = length x.area in
    record {
      keeps = closed_obeys s n c.key f;
      size = refl;
      views = by_key (λ _. None) x _ c.key (closed_own s n c.key f x.area) (closed_other s n c.key f x.area);
      promises = omega (arith, closed_promises s n c.key f, closed_quota s n c.key f x.area);
    }
