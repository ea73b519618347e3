-- What stays: all of it where a call is refused or only asks, and all else where a call changes one watch. A result implies the rules.
use Prim.Native.Nat.{◌+◌, ◌<◌, ◌≤◌, ℕ}
use mathlib.Core.Path.{◌∙◌, ◌≡◌, ap, refl, subst, sym}
use mathlib.Core.Bool.{Bool, false, true}
use mathlib.Core.List.{List}
use native.Mathlib.Omega.{arith}
use lib.ListN.{length}
use borrow.Author.Tests.{ltb-true}
use Rattle.logic.proofs.LoopLaws.{any_first, first_has, true_false}
use Rattle.part.specs.declared.Part.{Part}
use Rattle.refusal.specs.Outcomes.{Outcome, refused, resulted}
use Rattle.section.specs.declared.header.Header.{Header}
use Rattle.shelf_state.specs.Records.{holds, place_at}
use Rattle.shelf_state.specs.Searches.{free_record, place_of, watch_of}
use Rattle.shelf_state.specs.Rules.{obeys}
use Rattle.shelf_state.specs.declared.records.Asked.{Asked}
use Rattle.shelf_state.specs.declared.records.Shelf.{Shelf}
use Rattle.shelf_state.proofs.RecordLaws.{holds_parts}
use Rattle.shelf_state.proofs.RuleLaws.{rules}
use Rattle.shelf.specs.Answers.{After}
use Rattle.shelf.specs.Calls.{closed, fetched, fetched_from, opened, opened_in_range, or_refuse_with, status_after}
use Rattle.shelf.specs.Delivery.{area_after, arriving, by_judge, delivered, delivering, done, for_owner, owner_in, received, received_at}
use Rattle.shelf.specs.Steps.{Lent, State, accepted, area_then, fetched_bytes, is_result, lent_to, other, own, step, step_on}
use Rattle.shelf.specs.Views.{Call, asks, closes, delivers, fetches, judged, key_in, opens}
use Rattle.refusal.proofs.OutcomeLaws.{same_result}
use Rattle.shelf.proofs.CallLaws.{passed}
use Rattle.shelf.proofs.JudgeLaws.{judged_sound}
use Rattle.shelf.proofs.OwnerLaws.{area_refused}
use Rattle.shelf_laws.specs.Laws.{LentStays, QuestionsStay, RefusedStays, is_question}
use Rattle.shelf_laws.specs.Stays.{ClosingKeeps, ClosingStays, DeliveryKeeps, DeliveryStays, FetchedInside, OpeningKeeps, OpeningStays}
use Rattle.shelf_laws.proofs.CloseLaws.{closed_keeps, closing_passed}
use Rattle.shelf_laws.proofs.DeliverLaws.{delivered_keeps, delivery_passed, place_now, stored_to}
use Rattle.shelf_laws.proofs.OpenLaws.{opened_keeps, opening_passed}

-- ---- questions
untouched : {A : Type 0} (n : ℕ) (s : Shelf) (b : Bool) (rest : After A) → rest.shelf ≡ s → (or_refuse_with n s b rest).shelf ≡ s
unfolding or_refuse_with
untouched n s true rest e = e
untouched n s false rest e = refl

pub questions_stay : QuestionsStay
unfolding step step_on status_after fetched fetched_from
questions_stay x t e = go t.call e
  where
    l : List ℕ
    l = lent_to x t.lent

    go : (c : Call) → is_question c ≡ true → (step_on x t.lent l c).next ≡ x
    go (opens o) f = true_false false f refl
    go (closes c) f = true_false false f refl
    go (asks q) f = ap (λ (s : Shelf). record { shelf = s; area = x.area }) (untouched 14 x.shelf _ _ (untouched 17 x.shelf _ _ refl))
    go (fetches g) f = ap (λ (s : Shelf). record { shelf = s; area = x.area }) (untouched 14 x.shelf _ _ (untouched 17 x.shelf _ _ (untouched 22 x.shelf _ _ refl)))
    go (delivers d) f = true_false false f refl

-- ---- refusals
-- what is refused leaves the shelf
abbrev Leaves : {A : Type 0} → Shelf → After A → Type 0
Leaves s r = is_result r.outcome ≡ false → r.shelf ≡ s

or_leaves : {A : Type 0} (n : ℕ) (s : Shelf) (b : Bool) (rest : After A) → Leaves s rest → Leaves s (or_refuse_with n s b rest)
unfolding or_refuse_with
or_leaves n s true rest h = h
or_leaves n s false rest h = λ _. refl

-- and a result is not refused
ended : {A : Type 0} → true ≡ false → A
ended e = true_false true refl e

module _ (s : Shelf) (area : ℕ) where
  opened_leaves : (a : Asked) (q : ℕ) → Leaves s (opened s area a q)
  unfolding opened opened_in_range
  opened_leaves a q = or_leaves 14 s _ _ (or_leaves 15 s _ _ (or_leaves 19 s _ _ (or_leaves 20 s _ _ (or_leaves 21 s _ _ ended))))

  closed_leaves : (a : Asked) → Leaves s (closed s area a)
  unfolding closed
  closed_leaves a = or_leaves 14 s _ _ (or_leaves 17 s _ _ ended)

  delivered_leaves : (pid : ℕ) (b : List ℕ) → Leaves s (delivering s area pid b)
  unfolding delivering arriving by_judge received for_owner received_at
  delivered_leaves pid b = or_leaves 14 s _ _ (or_leaves 15 s _ _ (by_judge_lem (judged b)))
    where
      by_owner : (h : Header) (o : Outcome ℕ) → Leaves s (for_owner s h (length b) o)
      by_owner h (refused k) = λ _. refl
      by_owner h (resulted w) = ended

      by_judge_lem : (o : Outcome Header) → Leaves s (by_judge s pid b o)
      by_judge_lem (refused k) = λ _. refl
      by_judge_lem (resulted h) = by_owner h (owner_in s.watches s.records (key_in pid b) h)

pub lent_stays : LentStays
lent_stays s l pid b n e = sym (area_refused l b _ n e)

-- a place that is not told is a result all the same
pub done_is : (o : Outcome ℕ) → is_result (done o) ≡ is_result o
done_is (refused k) = refl
done_is (resulted i) = refl

pub done_at : (o : Outcome ℕ) → is_result o ≡ true → (i : ℕ) × (o ≡ resulted i)
done_at (refused k) e = true_false false e refl
done_at (resulted i) e = (i, refl)

area_leaves : (l b : List ℕ) (o : Outcome ℕ) → is_result o ≡ false → area_after l b o ≡ l
unfolding area_after
area_leaves l b (refused k) e = refl
area_leaves l b (resulted i) e = ended e

-- memory that is left as it was lent leaves the shelf's area
lent_back : (x : State) (u : Lent) → area_then x u (lent_to x u) ≡ x.area
lent_back x own = refl
lent_back x (other l) = refl

pub refused_stays : RefusedStays
unfolding step step_on delivered
refused_stays x t e = go t.call e
  where
    l : List ℕ
    l = lent_to x t.lent

    go : (c : Call) → accepted (step_on x t.lent l c).answer ≡ false → (step_on x t.lent l c).next ≡ x
    go (opens o) f = ap (λ (s : Shelf). record { shelf = s; area = x.area }) (opened_leaves x.shelf (length l) o.key o.quota f)
    go (closes c) f = ap (λ (s : Shelf). record { shelf = s; area = x.area }) (closed_leaves x.shelf (length l) c.key f)
    go (asks q) f = questions_stay x (record { call = asks q; lent = t.lent }) refl
    go (fetches g) f = questions_stay x (record { call = fetches g; lent = t.lent }) refl
    go (delivers d) f =
        let g = sym (done_is (delivering x.shelf (length l) d.pid d.bytes).outcome) ∙ f in
        let p = delivered_leaves x.shelf (length l) d.pid d.bytes g in
        let q = ap (area_then x t.lent) (area_leaves l d.bytes _ g) ∙ lent_back x t.lent in
        λ i. record { shelf = p i; area = q i }

-- ---- a result is given only where the rules are kept
unbroken : {A : Type 0} (s : Shelf) (b : Bool) (rest : After A) → is_result (or_refuse_with 14 s b rest).outcome ≡ true → b ≡ true
unfolding or_refuse_with
unbroken s true rest e = refl
unbroken s false rest e = e

bytes_are : (l : List ℕ) (o : Outcome Part) → is_result (fetched_bytes l o) ≡ is_result o
bytes_are l (refused k) = refl
bytes_are l (resulted p) = refl

pub result_obeys : (x : State) (u : Lent) (l : List ℕ) (c : Call) → accepted (step_on x u l c).answer ≡ true → obeys x.shelf (length l) ≡ true
unfolding step_on opened closed status_after fetched delivered delivering
result_obeys x u l (opens o) e = unbroken x.shelf _ _ e
result_obeys x u l (closes c) e = unbroken x.shelf _ _ e
result_obeys x u l (asks q) e = unbroken x.shelf _ _ e
result_obeys x u l (fetches g) e = unbroken x.shelf _ _ (sym (bytes_are l (fetched x.shelf (length l) g.key g.number).outcome) ∙ e)
result_obeys x u l (delivers d) e = unbroken x.shelf _ _ (sym (done_is (delivering x.shelf (length l) d.pid d.bytes).outcome) ∙ e)

-- ---- all else stays where a call changes one watch
pub opening_stays : OpeningStays
opening_stays s area a q e =
    let f = opening_passed s area a q e in
    subst (λ (r : After (Unit {0})). OpeningKeeps s r.shelf (free_record s)) (sym f.is) (opened_keeps s area a q f)

pub closing_stays : ClosingStays
closing_stays s area a e =
    let f = closing_passed s area a e in
    subst (λ (r : After (Unit {0})). ClosingKeeps s r.shelf (watch_of s a)) (sym f.is) (closed_keeps s area a f)

pub delivery_stays : DeliveryStays
unfolding area_after
delivery_stays s l pid b i e =
    let f = delivery_passed s (length l) pid b i e in
    let a : Asked = key_in pid b in
    let q : place_now s a f.head ≡ i = same_result _ i (sym (ap (λ (r : After ℕ). r.outcome) f.is) ∙ e) in
    subst (λ (r : After ℕ). DeliveryKeeps s r.shelf (watch_of s a) i l (area_after l b r.outcome) b) (sym f.is)
    (subst (λ (j : ℕ). DeliveryKeeps s (stored_to s a f.head (length b)) (watch_of s a) j l (area_after l b (resulted (place_now s a f.head))) b) q
    (delivered_keeps s l b a f.head f.ok (judged_sound b f.head f.judge) f.owner))

-- ---- a fetched part
pub fetched_inside : FetchedInside
unfolding fetched fetched_from
fetched_inside s area a m p e =
    let p₁ = passed 14 s _ _ p e in
    let p₂ = passed 17 s _ _ p p₁.1 in
    let p₃ = passed 22 s _ _ p p₂.1 in
    let w : ℕ = watch_of s a in
    let j : ℕ = place_of s w m in
    let r = rules s area p₁.0 in
    let l : j < s.count = ltb-true j s.count (sym (any_first (λ i. holds (place_at s i) w m) s.count) ∙ p₃.0) in
    let u = holds_parts (place_at s j) w m (first_has (λ i. holds (place_at s i) w m) s.count l) in
    subst (λ (y : Part). y.start + y.length ≤ area) (same_result _ p p₃.1) (omega (arith, r.size.area_is, l, r.short j l u.0))
