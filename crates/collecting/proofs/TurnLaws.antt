-- What stretches of turns need: the answers to a key by its view, the memory lent after a turn, and when all are counted.
use Prim.Native.Nat.{suc, zero, ℕ}
use mathlib.Core.Path.{◌≡◌, ap, refl, subst, sym}
use mathlib.Core.Bool.{Bool, true}
use mathlib.Core.List.{List}
use mathlib.Core.Logic.{⊎_elim}
use native.Mathlib.Omega.{arith}
use lib.Dec.{eqb}
use lib.ListN.{length}
use borrow.Author.Tests.{eq-eqb, eqb-true}
use Rattle.logic.specs.Choices.{if_eq, pick}
use Rattle.logic.specs.Loops.{all, count, one, sum}
use Rattle.logic.proofs.LoopLaws.{and_i, and_left, and_right, both, same_truth}
use Rattle.logic.proofs.CountLaws.{count_upto}
use Rattle.shelf_state.specs.declared.records.Asked.{Asked}
use Rattle.shelf_state.specs.declared.records.Shelf.{Shelf}
use Rattle.shelf.specs.Views.{complete, held, held_or_complete, current_on, delivery_says, fetching_says, key_in, status_says}
use Rattle.shelf.specs.Steps.{State, Turn, did, gave, step, reported, view_in}
use Rattle.shelf_laws.specs.Laws.{Empty, Obeys, Says, OneStep}
use Rattle.shelf_laws.proofs.EmptyLaws.{empty_law}
use Rattle.shelf_laws.proofs.StepLaws.{answer_law}
use Rattle.collecting.specs.Collecting.{Own, StartsEmpty, deliver, fetch, status, ours}

-- ---- answers
module _ (x : State) (k : Asked) (ok : Obeys x) where
  pub says_status : (step x (status k)).answer ≡ reported (status_says (view_in x k))
  unfolding Says
  says_status = answer_law x (status k) ok

  pub says_bytes : (m : ℕ) → (step x (fetch k m)).answer ≡ gave (fetching_says (view_in x k) m)
  unfolding Says
  says_bytes m = answer_law x (fetch k m) ok

pub says_delivered : (x : State) (pid : ℕ) (b : List ℕ) → Obeys x → (step x (deliver pid b)).answer ≡ did (delivery_says (view_in x (key_in pid b)) (current_on pid b))
unfolding Says
says_delivered x pid b ok = answer_law x (deliver pid b) ok

-- ---- the area keeps its length, so that the turns left are lent it or a memory of another length
pub own_next : {x : State} {t : Turn} {ts : List Turn} → OneStep x t → Own (length x.area) ts → Own (length (step x t).next.area) ts
own_next {x} {t} {ts} s own = subst (λ (n : ℕ). Own n ts) (sym s.size) own

-- ---- a shelf that is empty
pub empty_now : (x : State) (e : StartsEmpty ours x) → Empty e.places e.records x
empty_now x e = subst (λ (s : Shelf). Empty e.places e.records (record { shelf = s; area = x.area })) (sym e.shelf_is) (empty_law e.places e.records x.area e.made_so e.area_is)

-- ---- all are counted exactly where all have it
all_counted : (n : ℕ) (p : ℕ → Bool) → all n p ≡ true → count n p ≡ n
unfolding all sum
all_counted zero p e = refl
all_counted (suc n) p e = omega (arith, all_counted n p (and_left (all n p) (p n) e), ap one (and_right (all n p) (p n) e))

counted_all : (n : ℕ) (p : ℕ → Bool) → count n p ≡ n → all n p ≡ true
unfolding all sum
counted_all zero p e = refl
counted_all (suc n) p e = ⊎_elim
    (λ t. and_i (all n p) (p n) (counted_all n p (omega (arith, e, ap one t))) t)
    (λ f. absurd (omega (arith, e, ap one f, count_upto n p)))
    (both (p n))

pub count_says : (n : ℕ) (p : ℕ → Bool) → held_or_complete (count n p) n ≡ pick (all n p) (complete n) (held (count n p) n)
unfolding held_or_complete if_eq
count_says n p =
    ap (λ (b : Bool). pick b (complete n) (held (count n p) n))
    (same_truth (eqb (count n p) n) (all n p) (λ e. counted_all n p (eqb-true _ _ e)) (λ e. eq-eqb _ _ (all_counted n p e)))
