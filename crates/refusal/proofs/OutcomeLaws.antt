-- Outcomes: what is told of them, one after another; and answers by what they mean.
use Prim.Native.Nat.{ℕ}
use mathlib.Core.Path.{◌≡◌, refl, sym, ap, ◌∙◌}
use mathlib.Core.Bool.{Bool, true, false}
use native.Mathlib.Omega.{arith}
use Rattle.std.specs.Prelude.{Result, Ok, Err, IsErrAnd, Option, None, Some}
use Rattle.std.specs.Option.{ok_or}
use Rattle.std.proofs.lemmas.Result.{err_from_is_err_and}
use Rattle.refusal.specs.declared.Refusal.{Refusal}
use Rattle.refusal.specs.declared.Refusal.TheVariants.{NoSuchEntry}
use Rattle.refusal.specs.Numbers.{number_of}
use Rattle.refusal.specs.Outcomes.{Outcome, refused, resulted, outcome, outcome_by, after, or_refuse, or_none}
use Rattle.refusal.proofs.NumberLaws.{numbered, numbered_back}

pub same_result : {A : Type 0} (a b : A) → ◌≡◌ {A = Outcome A} (resulted a) (resulted b) → a ≡ b
same_result a b e = cc

-- a refusal is no result
pub not_both : {A B : Type 0} (n : ℕ) (a : A) → ◌≡◌ {A = Outcome A} (refused n) (resulted a) → B
not_both n a e = let z : ◌≡◌ {A = ℕ} 0 1 = cc in absurd (omega arith)

-- what a test lets through has passed it
pub went_on : {A : Type 0} (n : ℕ) (b : Bool) (o : Outcome A) (a : A) → or_refuse n b o ≡ resulted a → (b ≡ true) × (o ≡ resulted a)
unfolding or_refuse
went_on n true o a e = (refl, e)
went_on n false o a e = not_both n a e

-- ---- one after another
module _ {A B : Type 0} (x : Outcome A) (k : A → Outcome B) where
  pub after_result : (a : A) → x ≡ resulted a → after x k ≡ k a
  unfolding after
  after_result a e = rw e

  pub after_refused : (n : ℕ) → x ≡ refused n → after x k ≡ refused n
  unfolding after
  after_refused n e = rw e

-- what comes after another call, and is not refused: nor was that one
pub after_is : {A B : Type 0} (x : Outcome A) (k : A → Outcome B) (b : B) → after x k ≡ resulted b → (a : A) × ((x ≡ resulted a) × (k a ≡ resulted b))
unfolding after
after_is (refused n) k b e = not_both n b e
after_is (resulted a) k b e = (a, (refl, e))

pub after_after : {A B C : Type 0} (x : Outcome A) (k : A → Outcome B) (j : B → Outcome C) → after (after x k) j ≡ after x (λ a. after (k a) j)
unfolding after
after_after (refused n) k j = refl
after_after (resulted a) k j = refl

-- ---- where every answer can be told from its meaning, equal meanings are equal answers
pub once_by : {A B : Type 0} (means : A → B) (told : B → A) → ((x : A) → told (means x) ≡ x) → (x y : A) → means x ≡ means y → x ≡ y
once_by means told back x y e = sym (back x) ∙ ap told e ∙ back y

-- ---- what an answer of the code means
-- no two answers mean the same
told_as : {A : Type 0} → Outcome A → Result A Refusal
told_as (refused n) = Err (numbered n)
told_as (resulted a) = Ok a

told_back : {A : Type 0} (r : Result A Refusal) → told_as (outcome r) ≡ r
unfolding told_as
told_back (Ok a) = refl
told_back (Err k) = ap Err (numbered_back k)

pub outcome_once : {A : Type 0} (a b : Result A Refusal) → outcome a ≡ outcome b → a ≡ b
outcome_once = once_by outcome told_as told_back

-- nor where f reads the value, and what f reads tells the value
told_by : {A B : Type 0} → (B → A) → Outcome B → Result A Refusal
told_by g (refused n) = Err (numbered n)
told_by g (resulted b) = Ok (g b)

by_back : {A B : Type 0} (f : A → B) (g : B → A) → ((a : A) → g (f a) ≡ a) → (r : Result A Refusal) → told_by g (outcome_by f r) ≡ r
unfolding told_by
by_back f g back (Ok a) = ap Ok (back a)
by_back f g back (Err k) = ap Err (numbered_back k)

pub outcome_by_once : {A B : Type 0} (f : A → B) (g : B → A) → ((a : A) → g (f a) ≡ a) → (a b : Result A Refusal)
    → outcome_by f a ≡ outcome_by f b → a ≡ b
outcome_by_once f g back = once_by (outcome_by f) (told_by g) (by_back f g back)

-- 13 where there is nothing
pub none_refused : {A : Type 0} (o : Option A) {r : Result A Refusal} → r ≡ ok_or o NoSuchEntry → outcome r ≡ or_none o
none_refused None e = rw e
none_refused (Some a) e = rw e

-- where a step was refused, so is what it was a step of
pub stopped : {A B : Type 0} (k : A → Outcome B) {r : Result A Refusal} {x : Outcome A} {e : Refusal}
    → outcome r ≡ x → r ≡ Err e → refused (number_of e) ≡ after x k
unfolding after
stopped k m i = rw (← m, i)

-- what a `?` hands on
pub handed_on : {A E : Type 0} {r : Result A E} {e : E} → IsErrAnd r (λ y. y ≡ e) → r ≡ Err e
handed_on {A} {E} {r} {e} m = let q = err_from_is_err_and r m in q.1 ∙ ap Err q.2

-- the same at the exit of a `?`, where the answer is told as it is, and where f reads it
pub exit : {A B : Type 0} (k : A → Outcome B) (r : Result B Refusal) {v : Result A Refusal} {x : Outcome A} {e : Refusal}
    → IsErrAnd r (λ y. y ≡ e) → outcome v ≡ x → v ≡ Err e → outcome r ≡ after x k
exit k r m f i = ap outcome (handed_on m) ∙ stopped k f i

pub exit_by : {A B C : Type 0} (g : C → B) (k : A → Outcome B) (r : Result C Refusal) {v : Result A Refusal} {x : Outcome A} {e : Refusal}
    → IsErrAnd r (λ y. y ≡ e) → outcome v ≡ x → v ≡ Err e → outcome_by g r ≡ after x k
exit_by g k r m f i = ap (outcome_by g) (handed_on m) ∙ stopped k f i

-- where it was not, what follows decides
pub went : {A B : Type 0} (k : A → Outcome B) {r : Result A Refusal} {x : Outcome A} {a : A} {y : Outcome B}
    → outcome r ≡ x → r ≡ Ok a → y ≡ k a → y ≡ after x k
unfolding after
went k m i f = rw (← m, i) f
