-- When turns are a stretch for a table, told by their sections alone; and that a memory of another length is refused by 14.
use Rattle.std.specs.Prelude.{Option, Some}
use Prim.Native.Nat.{◌+◌, ◌<◌, ℕ}
use mathlib.Core.Path.{◌∙◌, ◌≡◌, ap, subst, sym}
use mathlib.Core.Bool.{false, true}
use mathlib.Core.List.{List, [], ◌∷◌}
use lib.ListN.{length}
use borrow.Author.Tests.{lt-leb}
use Rattle.logic.proofs.LoopLaws.{true_false}
use Rattle.refusal.specs.Outcomes.{refused, resulted, or_refuse}
use Rattle.section.specs.declared.header.Header.{Header}
use Rattle.shelf_state.specs.declared.records.Asked.{Asked}
use Rattle.shelf.specs.Steps.{Lent, State, Turn, accepted, did, other, own, own_or14, step, view_in}
use Rattle.shelf.specs.Views.{Call, Delivery, View, asks, closes, current_on, delivers, delivery_says, fetches, key_in, opens}
use Rattle.shelf_laws.specs.Laws.{Obeys, OneStep, refused_as}
use Rattle.shelf_laws.proofs.AnswerLaws.{broken_law}
use Rattle.shelf_laws.proofs.StepLaws.{other_breaks, step_law}
use Rattle.collecting.proofs.FirstHalf.{turned}
use Rattle.collecting.proofs.TurnLaws.{own_next, says_delivered}
use Rattle.collecting.specs.Collecting.{Allowed, OneOf, Own, Stretch, WholeTable, end, one_more, goes_on, ours}

-- ---- another memory, of another length
module _ (x : State) (l : List ℕ) (ok : Obeys x) (lent : own_or14 (length x.area) (other l) ≡ true) where
  pub lent_other : (c : Call) → (step x (record { call = c; lent = other l })).answer ≡ refused_as c 14
  lent_other c = broken_law x (record { call = c; lent = other l }) (λ f. true_false _ f (other_breaks x l ok lent))

-- ---- what a call of a stretch may be
-- a delivery: of another key; of the table; refused before a watch is asked for; or of more sections than the quota
pub data Harmless {k : Asked} (table : WholeTable k) (quota : ℕ) (d : Delivery) : Type 0 where
  other_key : (key_in d.pid d.bytes ≡ k → ⊥) → Harmless table quota d
  of_table : OneOf table d.bytes → Harmless table quota d
  unsound : (n : ℕ) → current_on d.pid d.bytes ≡ refused n → Harmless table quota d
  too_many : (h : Header) → current_on d.pid d.bytes ≡ resulted h → quota < h.last + 1 → Harmless table quota d

abbrev pub Plain : {k : Asked} → WholeTable k → ℕ → Call → Type 0
Plain {k} table quota (opens o) = Unit {0}
Plain {k} table quota (closes c) = c.key ≡ k → ⊥
Plain {k} table quota (asks q) = Unit {0}
Plain {k} table quota (fetches f) = Unit {0}
Plain {k} table quota (delivers d) = Harmless table quota d

pub data AllPlain {k : Asked} (table : WholeTable k) (quota : ℕ) : List Turn → Type 0 where
  all_plain : AllPlain table quota []
  plain : {t : Turn} {ts : List Turn} → Plain table quota t.call → AllPlain table quota ts → AllPlain table quota (t ∷ ts)

-- ---- such calls are allowed
module _ (k : Asked) (table : WholeTable k) (x : State) (v : View) (ok : Obeys x) (is : view_in x k ≡ Some v) where
  -- a delivery that its own area would not make accepted
  refuses : (d : Delivery) (u : Lent) (n : ℕ) → own_or14 (length x.area) u ≡ true → key_in d.pid d.bytes ≡ k
      → delivery_says (Some v) (current_on d.pid d.bytes) ≡ refused n → accepted (step x (record { call = delivers d; lent = u })).answer ≡ false
  refuses d (other l) n lent e r = ap accepted (lent_other x l ok lent (delivers d))
  refuses d own n lent e r =
      ap accepted (says_delivered x d.pid d.bytes ok ∙ ap did (ap (λ (w : Option View). delivery_says w (current_on d.pid d.bytes)) (ap (view_in x) e ∙ is) ∙ r))

  allowed : (t : Turn) → own_or14 (length x.area) t.lent ≡ true → Plain table v.quota t.call → Allowed ours table x t
  unfolding delivery_says or_refuse
  allowed t lent p = record {
    stays_open = λ c e q. absurd (subst (Plain table v.quota) e p q);
    no_other = λ d e q a. one d q (subst (Plain table v.quota) e p)
        (λ n r. true_false _ (sym (ap (λ (c : Call). accepted (step x (record { call = c; lent = t.lent })).answer) e) ∙ a) (refuses d t.lent n lent q r));
  }
    where
      one : (d : Delivery) → key_in d.pid d.bytes ≡ k → Harmless table v.quota d
          → ((n : ℕ) → delivery_says (Some v) (current_on d.pid d.bytes) ≡ refused n → OneOf table d.bytes) → OneOf table d.bytes
      one d q (other_key f) r = absurd (f q)
      one d q (of_table o) r = o
      one d q (unsound n e) r = r n (rw e)
      one d q (too_many h e l) r = r 18 (rw (e, lt-leb (h.last + 1) v.quota l))

-- ---- so a stretch of them is a stretch
pub stretch_of : (k : Asked) (table : WholeTable k) (x : State) (v : View) (ts : List Turn) → Obeys x → view_in x k ≡ Some v → Own (length x.area) ts
    → AllPlain table v.quota ts → Stretch ours table x ts
stretch_of k table x v [] ok is o ps = end
stretch_of k table x v (t ∷ ts) ok is (one_more lent later) (plain p ps) =
    let s : OneStep x t = step_law x t ok in
    let al : Allowed ours table x t = allowed k table x v ok is t lent p in
    let o = turned k table x v ok is t lent al in
    goes_on al (stretch_of k table (step x t).next o.view ts s.keeps o.is_view (own_next s later)
    (subst (λ (n : ℕ). AllPlain table n ts) (sym o.same_quota) ps))
