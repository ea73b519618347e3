-- What a call comes to, and a change of one watch: every other key keeps its view, and the places promised move by that watch's quotas.
use Rattle.std.specs.Prelude.{Option, Some}
use Prim.Native.Nat.{◌+◌, ◌<◌, ℕ}
use mathlib.Core.Path.{◌∙◌, ◌≡◌, ap, refl, subst, sym}
use mathlib.Core.Bool.{Bool, false, true}
use mathlib.Core.List.{List}
use mathlib.Core.Logic.{⊎_elim}
use native.Mathlib.Omega.{arith}
use lib.ListN.{length}
use Rattle.logic.specs.Choices.{pick}
use Rattle.logic.specs.Loops.{◌&◌}
use Rattle.logic.proofs.CountLaws.{sum_at}
use Rattle.logic.proofs.LoopLaws.{same_or_not, true_false}
use Rattle.shelf_state.specs.Records.{is_of, same_key, watch_at}
use Rattle.shelf_state.specs.Rules.{promised, quota_of}
use Rattle.shelf_state.specs.Searches.{promised_in}
use Rattle.shelf_state.specs.declared.records.Asked.{Asked}
use Rattle.shelf_state.specs.declared.records.Shelf.{Shelf}
use Rattle.shelf_state.specs.declared.records.Watch.{Watch}
use Rattle.shelf_state.proofs.RecordLaws.{key_is}
use Rattle.shelf.specs.Steps.{State, view_in}
use Rattle.shelf.specs.Views.{Call, Fetching, Question, View, asks, closes, delivers, fetches, kept_at, next_view, opens, view, view_at}
use Rattle.shelf_laws.specs.Laws.{Obeys}
use Rattle.shelf_laws.specs.Promised.{quota_closed, quota_in, quota_opened}
use Rattle.shelf_laws.specs.Stays.{Others}
use Rattle.shelf_laws.proofs.ViewLaws.{same_view, view_at_lem, view_keep}

-- ---- what the step law says of any next state, by whether the call was accepted
pub record Moves (x : State) (c : Call) (y : Bool) (z : State) : Type 0 where
  pub keeps : Obeys z
  pub size : length z.area ≡ length x.area
  pub views : (k : Asked) → view_in z k ≡ next_view k c y (view_in x k)
  pub promises : promised z.shelf + quota_closed c y (λ k. quota_in (view_in x k)) ≡ promised x.shelf + quota_opened c y

-- a question
pub asked_moves : (x : State) (q : Question) (y : Bool) → Obeys x → Moves x (asks q) y x
unfolding next_view quota_closed quota_opened
asked_moves x q y ok = record { keeps = ok; size = refl; views = λ k. refl; promises = refl }

pub fetched_moves : (x : State) (f : Fetching) (y : Bool) → Obeys x → Moves x (fetches f) y x
unfolding next_view quota_closed quota_opened
fetched_moves x f y ok = record { keeps = ok; size = refl; views = λ k. refl; promises = refl }

-- a refused call
pub no_move : (x : State) (c : Call) → Obeys x → Moves x c false x
unfolding next_view quota_closed quota_opened ◌&◌
no_move x (opens o) ok = record { keeps = ok; size = refl; views = λ k. refl; promises = refl }
no_move x (closes c) ok = record { keeps = ok; size = refl; views = λ k. refl; promises = refl }
no_move x (asks q) ok = asked_moves x q false ok
no_move x (fetches f) ok = fetched_moves x f false ok
no_move x (delivers d) ok = record { keeps = ok; size = refl; views = λ k. refl; promises = refl }

-- ---- the key of a change and every other one
pub by_key : (f : Option View → Option View) (x z : State) (a : Asked) → view_in z a ≡ f (view_in x a)
    → ((k : Asked) → same_key k a ≡ false → view_in z k ≡ view_in x k)
    → (k : Asked) → view_in z k ≡ pick (same_key k a) (f (view_in x k)) (view_in x k)
by_key f x z a own other k = go (same_key k a) refl
  where
    go : (c : Bool) → same_key k a ≡ c → view_in z k ≡ pick c (f (view_in x k)) (view_in x k)
    go true e = subst (λ (y : Asked). view_in z y ≡ f (view_in x y)) (sym (key_is k a e)) own
    go false e = other k e

-- ---- one watch is changed
module _ (s t : Shelf) (w : ℕ) (o : Others s t w) where
  pub promised_moves : w < s.records → promised t + quota_of (watch_at s w) ≡ promised s + quota_of (watch_at t w)
  promised_moves l = omega (
    arith,
    ap (promised_in t.watches) o.records_same,
    sum_at s.records (λ i. quota_of (watch_at t i)) (λ i. quota_of (watch_at s i)) w l (λ k n. ap quota_of (o.watches_stay k n)),
  )

  -- a key that is the watch's neither before nor after
  pub other_key : (a b : List ℕ) → ((v m : ℕ) → (v ≡ w → ⊥) → kept_at t b v m ≡ kept_at s a v m)
      → (k : Asked) → is_of (watch_at s w) k ≡ false → is_of (watch_at t w) k ≡ false → view t b k ≡ view s a k
  other_key a b kept k e f = view_keep s t a b k o.records_same
      (λ i _. ⊎_elim
      (λ q. subst (λ (j : ℕ). is_of (watch_at t j) k ≡ is_of (watch_at s j) k) (sym q) (f ∙ sym e))
      (λ n. ap (λ (y : Watch). is_of y k) (o.watches_stay i n))
      (same_or_not i w))
      (λ v _ g.
      let n : v ≡ w → ⊥ = (λ q. true_false (is_of (watch_at s w) k) (subst (λ (j : ℕ). is_of (watch_at s j) k ≡ true) q g) e) in
      same_view s t a b v (o.watches_stay v n) (λ m. kept v m n))

  -- the watch's key afterwards
  pub own_key : (b : List ℕ) (k : Asked) → w < s.records → is_of (watch_at t w) k ≡ true → ((i : ℕ) → i < w → is_of (watch_at s i) k ≡ false)
      → view t b k ≡ Some (view_at t b w)
  own_key b k l e n = view_at_lem t b k w (omega (arith, l, o.records_same)) e
      (λ i m. ap (λ (y : Watch). is_of y k) (o.watches_stay i (λ q. omega (arith, q, m))) ∙ n i m)
