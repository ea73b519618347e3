-- Equal meanings are equal answers, and a refusal leaves the area as it was.
use Prim.Native.Nat.{ℕ}
use mathlib.Core.Path.{◌∙◌, ◌≡◌, ap, refl, sym}
use mathlib.Core.List.{List}
use Rattle.std.specs.Prelude.{Err, Ok, Result}
use Rattle.refusal.proofs.NumberLaws.{numbered, numbered_back}
use Rattle.refusal.proofs.OutcomeLaws.{not_both, once_by, outcome_once}
use Rattle.refusal.specs.Numbers.{number_of}
use Rattle.refusal.specs.Outcomes.{Outcome, outcome, outcome_by, refused, resulted}
use Rattle.refusal.specs.declared.Refusal.{Refusal}
use Rattle.shelf.specs.Answers.{After, after, after_by, status_told}
use Rattle.shelf.specs.Delivery.{area_after, done}
use Rattle.shelf.specs.Views.{Status, complete, held, unheard}
use Rattle.shelf.specs.declared.answers.After as code
use Rattle.shelf.specs.declared.answers.Progress.{Progress}
use Rattle.shelf.specs.declared.answers.Progress.TheVariants as progress

status_answer : Outcome Status → Result Progress Refusal
status_answer (refused n) = Err (numbered n)
status_answer (resulted unheard) = Ok progress.NothingHeard
status_answer (resulted (held c n)) = Ok (progress.Part c n)
status_answer (resulted (complete n)) = Ok (progress.Complete n)

status_back : (x : Result Progress Refusal) → status_answer (outcome_by status_told x) ≡ x
unfolding status_answer
status_back (Err k) = ap Err (numbered_back k)
status_back (Ok progress.NothingHeard) = refl
status_back (Ok (progress.Part c n)) = refl
status_back (Ok (progress.Complete n)) = refl

pub status_once : (x y : Result Progress Refusal) → outcome_by status_told x ≡ outcome_by status_told y → x ≡ y
status_once = once_by (outcome_by status_told) status_answer status_back

-- ---- an answer and a shelf
pub after_once : {A : Type 0} (x y : code.After A) → after x ≡ after y → x ≡ y
after_once {A} x y e =
    let a = outcome_once x.answer y.answer (ap (λ (r : After A). r.outcome) e) in
    λ i. record { answer = a i; shelf = (e i).shelf }

pub after_status_once : (x y : code.After Progress) → after_by status_told x ≡ after_by status_told y → x ≡ y
after_status_once x y e =
    let a = status_once x.answer y.answer (ap (λ (r : After Status). r.outcome) e) in
    λ i. record { answer = a i; shelf = (e i).shelf }

-- ---- the area of a delivery that is refused
pub area_keeps : (area b : List ℕ) (o : Outcome ℕ) (x : Result (Unit {0}) Refusal) (k : Refusal) → outcome x ≡ done o → x ≡ Err k → area_after area b o ≡ area
unfolding area_after
area_keeps area b (refused n) x k e q = refl
area_keeps area b (resulted i) x k e q = not_both (number_of k) tt (sym (ap outcome q) ∙ e)
