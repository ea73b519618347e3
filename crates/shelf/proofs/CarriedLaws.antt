-- A call is what its tests answer, carried to the shelf: a refusal leaves it as it was.
use Prim.Native.Nat.{◌+◌, ◌<◌, ℕ}
use mathlib.Core.Path.{◌∙◌, ◌≡◌, ap, refl, subst, sym}
use mathlib.Core.Bool.{Bool, false, not, true}
use mathlib.Core.List.{List}
use native.Mathlib.Omega.{arith}
use lib.Dec.{leb}
use lib.ListN.{length}
use borrow.Author.Tests.{ltb-true}
use Rattle.std.specs.Prelude.{Err, Ok, Result}
use Rattle.logic.specs.Loops.{any}
use Rattle.logic.proofs.LoopLaws.{any_first}
use Rattle.part.specs.declared.Part.{Part}
use Rattle.refusal.specs.Numbers.{number_of}
use Rattle.refusal.specs.Outcomes.{Outcome, after, or_refuse, outcome, refused, resulted}
use Rattle.refusal.specs.declared.Refusal.{Refusal}
use Rattle.refusal.proofs.OutcomeLaws.{after_is, same_result, went_on}
use Rattle.section.specs.declared.header.Header.{Header}
use Rattle.shelf_state.proofs.RuleLaws.{Rules, rules}
use Rattle.shelf_state.specs.Records.{blank_watch, is_of, watch_at}
use Rattle.shelf_state.specs.Searches.{dropped, free_record, is_held, set_watch, watch_of, watched}
use Rattle.shelf_state.specs.Rules.{in_range, obeys, promised}
use Rattle.shelf_state.specs.declared.records.Asked.{Asked}
use Rattle.shelf_state.specs.declared.records.Shelf.{Shelf}
use Rattle.shelf.proofs.JudgeLaws.{judged_sound}
use Rattle.shelf.proofs.OwnerLaws.{ready_of}
use Rattle.shelf.specs.Answers.{After}
use Rattle.shelf.specs.Calls.{answered, closed, fetched, fetched_from, fresh, held_numbers, opened, opened_in_range, or_refuse_with, refused_with, status_after}
use Rattle.shelf.specs.Delivery.{arriving, by_judge, delivering, for_owner, owner_in, received, received_at}
use Rattle.shelf.specs.Inner.{Ready, asking, carried, fetching, going, known, opening}
use Rattle.shelf.specs.Views.{judged, key_in, status_of}
use Rattle.shelf.specs.declared.delivery.Owner.{Owner}

-- ---- a call is what the test of it answers, carried to the shelf
module _ {A B : Type 0} (s : Shelf) (k : A → After B) {x : After B} {o : Outcome A} {v : Result A Refusal} (is : x ≡ carried s k o) (e : outcome v ≡ o) where
  pub by_refusal : {n : Refusal} → v ≡ Err n → refused_with (number_of n) s ≡ x
  by_refusal f = sym (is ∙ ap (carried s k) (sym e ∙ ap outcome f))

  pub by_result : {a : A} {r : After B} → v ≡ Ok a → r ≡ k a → r ≡ x
  by_result f g = g ∙ sym (is ∙ ap (carried s k) (sym e ∙ ap outcome f))

module _ (s : Shelf) (area : ℕ) (a : Asked) where
  pub opened_as : (q : ℕ) → opened s area a q ≡ carried s (λ f. answered tt (set_watch s f (fresh a q))) (opening s area a q)
  unfolding opened opened_in_range opening or_refuse or_refuse_with
  opened_as q = go (obeys s area) (in_range a q) (not (watched s a)) (any s.records (λ i. not (watch_at s i).live)) (leb (promised s + q) s.count)
    where
      go : (b c d e f : Bool)
          → or_refuse_with {A = Unit {0}} 14 s b (or_refuse_with 15 s c (or_refuse_with 19 s d (or_refuse_with 20 s e (or_refuse_with 21 s f (answered tt (set_watch s (free_record s) (fresh a q)))))))
          ≡ carried s (λ i. answered tt (set_watch s i (fresh a q))) (or_refuse 14 b (or_refuse 15 c (or_refuse 19 d (or_refuse 20 e (or_refuse 21 f (resulted (free_record s)))))))
      go false c d e f = refl
      go true false d e f = refl
      go true true false e f = refl
      go true true true false f = refl
      go true true true true false = refl
      go true true true true true = refl

  -- what is known of the record that is opened
  pub record Opening (q f : ℕ) : Type 0 where
    pub range : in_range a q ≡ true
    pub is : f ≡ free_record s
    pub small : f < 16

  pub opening_facts : (q f : ℕ) → opening s area a q ≡ resulted f → Opening q f
  unfolding opening
  opening_facts q f e =
      let free = or_refuse 21 (leb (promised s + q) s.count) (resulted (free_record s)) in
      let untaken = or_refuse 20 (any s.records (λ i. not (watch_at s i).live)) free in
      let p = went_on 14 (obeys s area) (or_refuse 15 (in_range a q) (or_refuse 19 (not (watched s a)) untaken)) f e in
      let r = went_on 15 (in_range a q) (or_refuse 19 (not (watched s a)) untaken) f p.1 in
      let w = went_on 20 (any s.records (λ i. not (watch_at s i).live)) free f (went_on 19 (not (watched s a)) untaken f r.1).1 in
      let i : free_record s ≡ f = same_result _ _ (went_on 21 (leb (promised s + q) s.count) (resulted (free_record s)) f w.1).1 in
      let l : free_record s < s.records = ltb-true _ _ (sym (any_first (λ i. not (watch_at s i).live) s.records) ∙ w.0) in
      record { range = r.0; is = sym i; small = omega (arith, i, l, (rules s area p.0).size.records_16) }

  -- 14 and 17, and what is done with the watch
  known_as : {B : Type 0} (k : ℕ → After B) → or_refuse_with 14 s (obeys s area) (or_refuse_with 17 s (watched s a) (k (watch_of s a))) ≡ carried s k (known s area a)
  unfolding known or_refuse or_refuse_with
  known_as {B} k = go (obeys s area) (watched s a)
    where
      go : (b c : Bool) → or_refuse_with 14 s b (or_refuse_with 17 s c (k (watch_of s a))) ≡ carried s k (or_refuse 14 b (or_refuse 17 c (resulted (watch_of s a))))
      go false c = refl
      go true false = refl
      go true true = refl

  -- where nothing is done to the shelf
  same_shelf : {A B : Type 0} (o : Outcome A) (f : A → Outcome B) → carried s (λ x. record { outcome = f x; shelf = s }) o ≡ record { outcome = after o f; shelf = s }
  unfolding after
  same_shelf (refused n) f = refl
  same_shelf (resulted x) f = refl

  pub closed_as : closed s area a ≡ carried s (λ w. answered tt (set_watch (dropped s w) w blank_watch)) (known s area a)
  unfolding closed
  closed_as = known_as (λ w. answered tt (set_watch (dropped s w) w blank_watch))

  pub status_as : status_after s area a ≡ record { outcome = asking s area a; shelf = s }
  unfolding status_after
  status_as =
      known_as (λ w. answered (status_of (watch_at s w).edition (held_numbers s w)) s)
      ∙ same_shelf (known s area a) (λ w. resulted (status_of (watch_at s w).edition (held_numbers s w)))

  -- a fetch leaves the shelf
  fetched_stays : (w m : ℕ) → fetched_from s w m ≡ record { outcome = (fetched_from s w m).outcome; shelf = s }
  unfolding fetched_from or_refuse_with
  fetched_stays w m = go (is_held s w m) _
    where
      go : (b : Bool) (p : Part) → or_refuse_with 22 s b (answered p s) ≡ record { outcome = (or_refuse_with 22 s b (answered p s)).outcome; shelf = s }
      go false p = refl
      go true p = refl

  pub fetched_as : (m : ℕ) → fetched s area a m ≡ record { outcome = fetching s area a m; shelf = s }
  unfolding fetched
  fetched_as m =
      known_as (λ w. fetched_from s w m)
      ∙ ap (λ (k : ℕ → After Part). carried s k (known s area a)) (λ i w. fetched_stays w m i)
      ∙ same_shelf (known s area a) (λ w. (fetched_from s w m).outcome)

  -- what is known of the watch
  pub record Known (w : ℕ) : Type 0 where
    pub rules : Rules s area
    pub is : w ≡ watch_of s a
    pub below : w < s.records

  pub known_facts : (w : ℕ) → known s area a ≡ resulted w → Known w
  unfolding known
  known_facts w e =
      let p = went_on 14 (obeys s area) (or_refuse 17 (watched s a) (resulted (watch_of s a))) w e in
      let q = went_on 17 (watched s a) (resulted (watch_of s a)) w p.1 in
      let f : watch_of s a ≡ w = same_result _ _ q.1 in
      record {
        rules = rules s area p.0;
        is = sym f;
        below = subst (λ (x : ℕ). x < s.records) f (ltb-true _ _ (sym (any_first (λ j. is_of (watch_at s j) a) s.records) ∙ q.0));
      }

-- ---- a delivery
module _ (s : Shelf) (area pid : ℕ) (b : List ℕ) where
  pub delivering_as : delivering s area pid b ≡ carried s (λ (o : Owner). received_at s o.watch o.header (length b)) (going s area pid b)
  unfolding delivering arriving by_judge received for_owner going or_refuse or_refuse_with after
  delivering_as = go (obeys s area) (leb pid 8191) (judged b)
    where
      kept : (h : Header) (o : Outcome ℕ)
          → for_owner s h (length b) o ≡ carried s (λ (o : Owner). received_at s o.watch o.header (length b)) (after o (λ w. resulted (record { watch = w; header = h })))
      kept h (refused n) = refl
      kept h (resulted w) = refl

      go : (x y : Bool) (j : Outcome Header)
          → or_refuse_with 14 s x (or_refuse_with 15 s y (by_judge s pid b j))
          ≡ carried s (λ (o : Owner). received_at s o.watch o.header (length b))
          (or_refuse 14 x (or_refuse 15 y (after j (λ h. after (owner_in s.watches s.records (key_in pid b) h) (λ w. resulted (record { watch = w; header = h }))))))
      go false y j = refl
      go true false j = refl
      go true true (refused n) = refl
      go true true (resulted h) = kept h (owner_in s.watches s.records (key_in pid b) h)

  pub going_ready : (o : Owner) → going s area pid b ≡ resulted o → Ready s o.watch o.header area (length b)
  unfolding going
  going_ready o e =
      let owner : Header → Outcome Owner = (λ h. after (owner_in s.watches s.records (key_in pid b) h) (λ w. resulted (record { watch = w; header = h }))) in
      let p = went_on 14 (obeys s area) (or_refuse 15 (leb pid 8191) (after (judged b) owner)) o e in
      let q = went_on 15 (leb pid 8191) (after (judged b) owner) o p.1 in
      let j = after_is (judged b) owner o q.1 in
      let w = after_is (owner_in s.watches s.records (key_in pid b) j.0) (λ w. resulted (record { watch = w; header = j.0 })) o j.1.1 in
      subst (λ (y : Owner). Ready s y.watch y.header area (length b)) (same_result _ o w.1.1)
      (ready_of s area (key_in pid b) j.0 (length b) w.0 p.0 (judged_sound b j.0 j.1.0) w.1.0)
