-- What the numbers that are answered for units say of them; how many segments are replaced at most, and that none is.
use mathlib.Core.Path.{◌≡◌, refl, sym, ap, ◌∙◌}
use mathlib.Core.List.{List}
use Prim.Native.Nat.{ℕ, zero, suc, ◌+◌, ◌-◌, ◌≤◌, ◌<◌}
use native.Mathlib.Omega.{arith}
use lib.ListN.{length}
use Rattle.refusal.specs.Outcomes.{Outcome, refused, resulted, outcome, after}
use Rattle.refusal.specs.Outputs.{counted}
use Rattle.refusal.specs.declared.Refusal.{Refusal}
use Rattle.std.specs.Prelude.{Result, Ok, Err, IsErrAnd, MatchResult}
use Rattle.std.proofs.lemmas.Result.{err_from_is_err_and}
use Rattle.refusal.proofs.OutcomeLaws.{same_result, not_both, stopped}
use Rattle.refusal.proofs.OutputLaws.{from_number}
use Rattle.bytes_at.specs.Fields.{byte_at}
use Rattle.format.specs.Repeats.{Bytes}
use Rattle.format.specs.Formats.{walks}
use Rattle.strings.specs.Strings.{segment}
use Rattle.text.specs.declared.answer.Amount.{Amount}
use Rattle.text.specs.declared.segments.Way.{Way}
use Rattle.text.specs.Answers.{amount_of}
use Rattle.text.specs.Segments.{way_of}
use Rattle.text.specs.Strings.{segment_replaced, string_at, joined_replaced, string_replaced}
use Rattle.bytes_at.specs.Walks.{Walk, standing}
use Rattle.refusal.specs.declared.Refusal.TheVariants.{Body}
use Rattle.refusal.specs.Numbers.{number_of}
use Rattle.text.specs.Replaced.{replaced_by, told_from}

-- ---- what an answer was, its meaning is
pub told_as : {A : Type 0} {r v : Result A Refusal} {x : Outcome A} → outcome r ≡ x → r ≡ v → x ≡ outcome v
told_as m e = sym m ∙ ap outcome e

-- what a `?` hands on is the refusal of the step
pub handed : {B : Type 0} {r : Result B Refusal} {k : Refusal} → IsErrAnd r (λ j. j ≡ k) → r ≡ Err k
handed {r = r} m = let q = err_from_is_err_and r m in q.1 ∙ ap Err q.2

pub exit : {A B : Type 0} (f : A → Outcome B) (r : Result B Refusal) {v : Result A Refusal} {x : Outcome A} {k : Refusal}
    → IsErrAnd r (λ j. j ≡ k) → outcome v ≡ x → v ≡ Err k → outcome r ≡ after x f
exit f r m e q = ap outcome (handed m) ∙ stopped f e q

-- a walk's place, or 9
pub stands_as : (w : Walk) (r : Result ℕ Refusal) (P : ℕ → Refusal → Type 0) → ((x : ℕ) (k : Refusal) → P x k → k ≡ Body)
    → MatchResult w (λ b. r ≡ Ok b) (λ x. IsErrAnd r (P x)) → outcome r ≡ standing w
unfolding standing
stands_as (Ok b) r P f m = ap outcome m
stands_as (Err x) r P f m = let q = err_from_is_err_and r m in ap outcome q.1 ∙ ap (λ (k : Refusal). refused (number_of k)) (f x q.0 q.2)

-- ---- the amount
pub amount_result : (p : ℕ) (us : List ℕ) → amount_of p (resulted us) ≡ resulted (record { units = length us; replaced = p })
unfolding amount_of after
amount_result p us = refl

pub amount_refused : (p n : ℕ) → amount_of p (refused n) ≡ refused n
unfolding amount_of after
amount_refused p n = refl

-- none were replaced, and there are n units
pub amount_counted : (p : ℕ) (x : Outcome (List ℕ)) (n : ℕ) → p ≡ 0 → resulted n ≡ counted x → resulted (record { units = n; replaced = 0 }) ≡ amount_of p x
amount_counted p x n z e =
    let f = from_number x n e in
    (λ i. resulted (record { units = f.1.1 i; replaced = sym z i })) ∙ sym (ap (amount_of p) f.1.0 ∙ amount_result p f.0)

-- amounts were answered: there are so many units
pub from_amount : (p : ℕ) (x : Outcome (List ℕ)) (a : Amount) → resulted a ≡ amount_of p x → resulted a.units ≡ counted x
unfolding amount_of counted after
from_amount p (refused k) a e = not_both k a (sym e)
from_amount p (resulted us) a e = ap (λ (b : Amount). resulted b.units) (same_result a _ e)

pub from_replaced : (p : ℕ) (x : Outcome (List ℕ)) (a : Amount) → resulted a ≡ amount_of p x → a.replaced ≡ p
unfolding amount_of after
from_replaced p (refused k) a e = not_both k a (sym e)
from_replaced p (resulted us) a e = ap (λ (b : Amount). b.replaced) (same_result a _ e)

-- a refusal was answered: it is that of the units
pub from_no_amount : (p : ℕ) (x : Outcome (List ℕ)) (n : ℕ) → refused n ≡ amount_of p x → x ≡ refused n
unfolding amount_of after
from_no_amount p (refused k) n e = let q : k ≡ n = cc in ap refused q
from_no_amount p (resulted us) n e = not_both n _ e

-- ---- a number that is told from a place on
pub told_result : {A : Type 0} (x : Outcome A) (k : A → ℕ) (a : A) → x ≡ resulted a → told_from x k ≡ k a
unfolding told_from
told_result x k a e = rw e

pub told_after : {A : Type 0} (x : Outcome A) (k : A → ℕ) → told_from x k ≡ told_from (after x (λ a. resulted (k a))) (λ n. n)
unfolding told_from after
told_after (refused n) k = refl
told_after (resulted a) k = refl

told_most : {A : Type 0} (x : Outcome A) (k : A → ℕ) (m : ℕ) → ((a : A) → k a ≤ m) → told_from x k ≤ m
unfolding told_from
told_most (refused n) k m h = omega arith
told_most (resulted a) k m h = h a

-- ---- a segment is replaced once or not at all, and a string has at most 255
way_most : (w : Way) → replaced_by w ≤ 1
unfolding replaced_by
way_most w = omega arith

joined_most : (s : List ℕ) (end m at : ℕ) → joined_replaced s end m at ≤ m
unfolding joined_replaced segment_replaced
joined_most s end zero at = omega arith
joined_most s end (suc m) at =
    told_most (standing (walks segment s end at)) _ (suc m)
    (λ b. omega (arith, way_most (way_of (byte_at s at) (byte_at s (at + 1))), joined_most s end m b))

pub replaced_few : (s : List ℕ) → Bytes s → (end at k : ℕ) → string_replaced s end at k < 256
unfolding string_replaced
replaced_few s z end at k =
    let h : (b : ℕ) → joined_replaced s end (byte_at s (b - 1)) b ≤ 255 = λ b. omega (arith, joined_most s end (byte_at s (b - 1)) b, z (b - 1)) in
    omega (arith, told_most (string_at s end at k) _ 255 h)

-- ---- no segment is replaced
none_from : {A : Type 0} (x : Outcome A) (k : A → ℕ) → ((a : A) → k a ≡ 0) → told_from x k ≡ 0
unfolding told_from
none_from (refused n) k h = refl
none_from (resulted a) k h = h a

pub none_joined : (s : List ℕ) (end m at : ℕ) → joined_replaced s end m at ≡ 0
unfolding joined_replaced segment_replaced replaced_by
none_joined s end zero at = refl
none_joined s end (suc m) at = none_from (standing (walks segment s end at)) _ (λ b. ap (λ (n : ℕ). 0 + n) (none_joined s end m b))
