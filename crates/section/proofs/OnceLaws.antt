-- Equal meanings are equal answers; and what answers mean whose error was mapped.
use Prim.Native.Nat.{ℕ}
use mathlib.Core.Path.{◌≡◌, refl, ap, ◌∙◌}
use Rattle.std.specs.Prelude.{Result, Ok, Err, IsErrAnd, MatchResult}
use Rattle.std.proofs.lemmas.Result.{err_from_is_err_and}
use Rattle.bytes_at.specs.Walks.{Walk}
use Rattle.refusal.specs.declared.Refusal.{Refusal}
use Rattle.refusal.specs.declared.Refusal.TheVariants.{Body}
use Rattle.refusal.specs.Numbers.{number_of}
use Rattle.refusal.specs.Outcomes.{outcome, refused}
use Rattle.refusal.proofs.NumberLaws.{numbered, numbered_back}
use Rattle.refusal.proofs.OutcomeLaws.{once_by}
use Rattle.section.specs.declared.header.Header.{Header}
use Rattle.section.specs.declared.inner.Fault.{Fault}
use Rattle.section.specs.declared.inner.Fault.TheVariants.{Refused, Broken}
use Rattle.section.specs.Answers.{Verdict, refused_by, broken_at, sound_with, verdict_of, by_walk, plainly}

inspected_told : Verdict → Result Header Fault
inspected_told (refused_by n) = Err (Refused (numbered n))
inspected_told (broken_at x) = Err (Broken x)
inspected_told (sound_with h) = Ok h

inspected_back : (x : Result Header Fault) → inspected_told (verdict_of x) ≡ x
unfolding inspected_told
inspected_back (Err (Refused k)) = ap (λ (q : _). Err (Refused q)) (numbered_back k)
inspected_back (Err (Broken x)) = refl
inspected_back (Ok h) = refl

pub inspected_once : (x y : Result Header Fault) → verdict_of x ≡ verdict_of y → x ≡ y
inspected_once = once_by verdict_of inspected_told inspected_back

-- ---- what a test of a body answers by the walk through it
unfoldable pub tested : Header → Result ℕ Fault → Verdict
tested h (Ok b) = sound_with h
tested h (Err k) = verdict_of (Err k)

pub tested_as : (h : Header) (w : Walk) (r : Result ℕ Fault) (P : ℕ → Fault → Type 0) → ((x : ℕ) (k : Fault) → P x k → k ≡ Broken x)
    → MatchResult w (λ b. r ≡ Ok b) (λ x. IsErrAnd r (P x)) → tested h r ≡ by_walk w h
unfolding tested
tested_as h (Ok b) r P f m = ap (tested h) m
tested_as h (Err x) r P f m = let q = err_from_is_err_and r m in ap (tested h) q.1 ∙ ap (λ (k : Fault). verdict_of (Err k)) (f x q.0 q.2)

-- ---- what a fault says by its number alone
pub plain_as : (v : Result Header Fault) (r : Result Header Refusal) (P : Fault → Refusal → Type 0)
    → ((n : Refusal) (k : Refusal) → P (Refused n) k → k ≡ n) → ((x : ℕ) (k : Refusal) → P (Broken x) k → k ≡ Body)
    → MatchResult v (λ h. r ≡ Ok h) (λ f. IsErrAnd r (P f)) → outcome r ≡ plainly (verdict_of v)
plain_as (Ok h) r P f g m = ap outcome m
plain_as (Err (Refused n)) r P f g m = let q = err_from_is_err_and r m in ap outcome q.1 ∙ ap (λ (k : Refusal). refused (number_of k)) (f n q.0 q.2)
plain_as (Err (Broken x)) r P f g m = let q = err_from_is_err_and r m in ap outcome q.1 ∙ ap (λ (k : Refusal). refused (number_of k)) (g x q.0 q.2)
