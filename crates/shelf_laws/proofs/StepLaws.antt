-- One step, of any call: the rules are kept, the next view of any key is told by its view, the places promised move by quotas, and the answers
-- are functions of views.
use Prim.Native.Nat.{◌+◌, ℕ}
use mathlib.Core.Path.{◌∙◌, ◌≡◌, ap, refl, subst, sym}
use mathlib.Core.Bool.{Bool, false, not, true}
use mathlib.Core.List.{List}
use mathlib.Core.Logic.{⊎_elim}
use lib.Dec.{eqb}
use lib.ListN.{length}
use borrow.Author.Tests.{eqb-false, eqb-true}
use Rattle.logic.proofs.LoopLaws.{both, isnt, not_e, true_false}
use Rattle.refusal.specs.Outcomes.{Outcome, refused, resulted}
use Rattle.shelf_state.proofs.RuleLaws.{rules}
use Rattle.shelf_state.specs.Rules.{obeys, promised}
use Rattle.shelf_state.specs.declared.records.Asked.{Asked}
use Rattle.shelf.specs.Answers.{After}
use Rattle.shelf.specs.Delivery.{area_after, delivered, delivering}
use Rattle.shelf.specs.Steps.{Lent, State, Step, Turn, accepted, did, gave, is_result, lent_to, other, own, own_or14, step, step_on, reported, view_in}
use Rattle.shelf.specs.Views.{Call, asks, closes, delivers, fetches, opens}
use Rattle.shelf_laws.specs.Laws.{AnswerLaw, Obeys, Says, StepLaw, with_lent}
use Rattle.shelf_laws.specs.Promised.{PromisesLaw, QuotasLaw, quota_closed, quota_in, quota_next, quota_opened}
use Rattle.shelf_laws.proofs.AnswerLaws.{closing_says_lem, delivery_says_lem, fetching_says_lem, opening_says_lem, status_says_lem}
use Rattle.shelf_laws.proofs.CloseLaws.{closing_moves, closing_passed}
use Rattle.shelf_laws.proofs.DeliverLaws.{delivery_moves, delivery_passed}
use Rattle.shelf_laws.proofs.MoveLaws.{Moves, asked_moves, fetched_moves, no_move}
use Rattle.shelf_laws.proofs.OpenLaws.{opening_moves, opening_passed}
use Rattle.shelf_laws.proofs.QuotaLaws.{quota_elsewhere, quota_next_lem}
use Rattle.shelf_laws.proofs.StayLaws.{done_at, done_is, questions_stay, refused_stays, result_obeys}

pub answer_law : AnswerLaw
unfolding Says step step_on delivered
answer_law x t ok = go t.call
  where
    l : List ℕ
    l = lent_to x t.lent

    go : (c : Call) → Says (with_lent x t) c (step_on x t.lent l c).answer
    go (opens o) = ap did (opening_says_lem x.shelf l ok o.key o.quota)
    go (closes c) = ap did (closing_says_lem x.shelf l ok c.key)
    go (asks q) = ap reported (status_says_lem x.shelf l ok q.key)
    go (fetches f) = ap gave (fetching_says_lem x.shelf l ok f.key f.number)
    go (delivers d) = ap did (delivery_says_lem x.shelf l ok d.pid d.bytes)

-- ---- an accepted call
pub done_tt : (o : Outcome (Unit {0})) → is_result o ≡ true → o ≡ resulted tt
done_tt (refused k) e = true_false false e refl
done_tt (resulted x) e = refl

-- another memory of another length is no area of the shelf
pub other_breaks : (x : State) (l : List ℕ) → Obeys x → own_or14 (length x.area) (other l) ≡ true → obeys x.shelf (length l) ≡ false
other_breaks x l ok e = isnt (obeys x.shelf (length l)) (λ f.
    eqb-false (length l) (length x.area) (not_e _ e) ((rules x.shelf (length l) f).size.area_is ∙ sym (rules x.shelf (length x.area) ok).size.area_is))

accepted_moves : (x : State) (u : Lent) (c : Call) → Obeys x → own_or14 (length x.area) u ≡ true
    → accepted (step_on x u (lent_to x u) c).answer ≡ true → Moves x c true (step_on x u (lent_to x u) c).next
unfolding step step_on delivered area_after
accepted_moves x (other l) c ok y e = true_false _ (result_obeys x (other l) l c e) (other_breaks x l ok y)
accepted_moves x own (opens o) ok y e =
    let f = opening_passed x.shelf (length x.area) o.key o.quota (done_tt _ e) in
    subst (λ (r : After (Unit {0})). Moves x (opens o) true (record { shelf = r.shelf; area = x.area })) (sym f.is) (opening_moves x o f)
accepted_moves x own (closes c) ok y e =
    let f = closing_passed x.shelf (length x.area) c.key (done_tt _ e) in
    subst (λ (r : After (Unit {0})). Moves x (closes c) true (record { shelf = r.shelf; area = x.area })) (sym f.is) (closing_moves x c f)
accepted_moves x own (asks q) ok y e =
    subst (Moves x (asks q) true) (sym (questions_stay x (record { call = asks q; lent = own }) refl)) (asked_moves x q true ok)
accepted_moves x own (fetches g) ok y e =
    subst (Moves x (fetches g) true) (sym (questions_stay x (record { call = fetches g; lent = own }) refl)) (fetched_moves x g true ok)
accepted_moves x own (delivers d) ok y e =
    let o : Outcome ℕ = (delivering x.shelf (length x.area) d.pid d.bytes).outcome in
    let i = done_at o (sym (done_is o) ∙ e) in
    let f = delivery_passed x.shelf (length x.area) d.pid d.bytes i.0 i.1 in
    subst (λ (r : After ℕ). Moves x (delivers d) true (record { shelf = r.shelf; area = area_after x.area d.bytes r.outcome })) (sym f.is) (delivery_moves x d f)

own_moves : (x : State) (t : Turn) → Obeys x → own_or14 (length x.area) t.lent ≡ true → Moves x t.call (accepted (step x t).answer) (step x t).next
unfolding step
own_moves x t ok y = go (accepted (step x t).answer) refl
  where
    go : (b : Bool) → accepted (step x t).answer ≡ b → Moves x t.call b (step x t).next
    go true e = accepted_moves x t.lent t.call ok y e
    go false e = subst (Moves x t.call false) (sym (refused_stays x t e)) (no_move x t.call ok)

-- ---- any lent memory: what does not depend on the area
record Settles (x : State) (c : Call) (y : Bool) (z : State) : Type 0 where
  keeps : Obeys z
  size : length z.area ≡ length x.area
  quotas : (k : Asked) → quota_in (view_in z k) ≡ quota_next k c y (quota_in (view_in x k))
  promises : promised z.shelf + quota_closed c y (λ k. quota_in (view_in x k)) ≡ promised x.shelf + quota_opened c y

own_settles : (x : State) (t : Turn) → Obeys x → own_or14 (length x.area) t.lent ≡ true → Settles x t.call (accepted (step x t).answer) (step x t).next
own_settles x t ok y =
    let m = own_moves x t ok y in
    record { keeps = m.keeps; size = m.size; quotas = λ k. ap quota_in (m.views k) ∙ quota_next_lem k t.call _ (view_in x k); promises = m.promises }

-- a memory that is not the shelf's area changes its records as an area of these bytes would; the shelf's own area stays
abbrev with_area : State → List ℕ → State
with_area x l = record { shelf = x.shelf; area = l }

lent_elsewhere : (x : State) (l : List ℕ) (c : Call)
    → step_on x (other l) l c ≡ record { answer = (step_on (with_area x l) own l c).answer; next = with_area (step_on (with_area x l) own l c).next x.area }
unfolding step_on
lent_elsewhere x l (opens o) = refl
lent_elsewhere x l (closes c) = refl
lent_elsewhere x l (asks q) = refl
lent_elsewhere x l (fetches g) = refl
lent_elsewhere x l (delivers d) = refl

settles_elsewhere : (x : State) (l : List ℕ) (c : Call) (y : Bool) (z : State) → length l ≡ length x.area → Settles (with_area x l) c y z
    → Settles x c y (with_area z x.area)
settles_elsewhere x l c y z e s = record {
  keeps = subst (λ (n : ℕ). obeys z.shelf n ≡ true) (s.size ∙ e) s.keeps;
  size = refl;
  quotas = λ k. quota_elsewhere z.shelf x.area z.area k ∙ s.quotas k ∙ ap (quota_next k c y) (quota_elsewhere x.shelf l x.area k);
  promises = subst (λ (f : Asked → ℕ). promised z.shelf + quota_closed c y f ≡ promised x.shelf + quota_opened c y) (λ i k. quota_elsewhere x.shelf l x.area k i) s.promises;
}

settles : (x : State) (t : Turn) → Obeys x → Settles x t.call (accepted (step x t).answer) (step x t).next
unfolding step
settles x t ok = go t.lent
  where
    Settled : Step → Type 0
    Settled r = Settles x t.call (accepted r.answer) r.next

    go : (u : Lent) → Settled (step_on x u (lent_to x u) t.call)
    go own = own_settles x (record { call = t.call; lent = own }) ok refl
    go (other l) = ⊎_elim
        (λ e. let q = eqb-true (length l) (length x.area) e in
        subst Settled (sym (lent_elsewhere x l t.call))
        (settles_elsewhere x l t.call _ _ q (own_settles (with_area x l) (record { call = t.call; lent = own }) (subst (λ (n : ℕ). obeys x.shelf n ≡ true) (sym q) ok) refl)))
        (λ e. own_settles x (record { call = t.call; lent = other l }) ok (ap not e))
        (both (eqb (length l) (length x.area)))

pub step_law : StepLaw
step_law x t ok = let s = settles x t ok in record { keeps = s.keeps; size = s.size; views = λ y. (own_moves x t ok y).views }

pub quotas_law : QuotasLaw
quotas_law x t k ok = (settles x t ok).quotas k

pub promises_law : PromisesLaw
promises_law x t ok = (settles x t ok).promises
