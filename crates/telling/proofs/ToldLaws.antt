-- What is promised of a call, of its refusal and of its result.
use Prim.Native.Nat.{ℕ, ◌<◌}
use mathlib.Core.Path.{◌≡◌, refl, ◌∙◌, ap, sym}
use mathlib.Core.Bool.{Bool, true, false}
use mathlib.Core.List.{List, map, ◌∷◌}
use lib.Dec.{ltb}
use native.Mathlib.Omega.{arith}
use borrow.Author.Tests.{ltb-false}
use Rattle.logic.specs.Choices.{pick}
use Rattle.refusal.specs.Outcomes.{Outcome, refused, resulted}
use Rattle.refusal.specs.Outputs.{no_value, number_in}
use Rattle.telling.specs.Told.{Told, noted, told_in}

module _ {A : Type 0} (f : A → List ℕ) (x : Outcome A) (l : List ℕ) (r : ℕ) where
  pub told_refused : (k : ℕ) → x ≡ refused k → r ≡ k → Told f x l r l
  told_refused k e i = record { number = i ∙ sym (ap number_in e); numbers = sym (ap (told_in f l) e) }

  pub told_result : (a : A) (m : List ℕ) → x ≡ resulted a → r ≡ 0 → m ≡ map noted (f a) → Told f x l r m
  told_result a m e i h = record { number = i ∙ sym (ap number_in e); numbers = h ∙ sym (ap (told_in f l) e) }

-- the same outcome, said otherwise
module _ {A : Type 0} {f : A → List ℕ} {x y : Outcome A} {l : List ℕ} {r : ℕ} {m : List ℕ} where
  pub told_as : x ≡ y → Told f x l r m → Told f y l r m
  told_as e t = record { number = t.number ∙ ap number_in e; numbers = t.numbers ∙ ap (told_in f l) e }

-- a number of 32 bits is told as it is
as_picked : (t : Bool) (n : ℕ) → (t ≡ false → n ≡ no_value) → pick t n no_value ≡ n
as_picked true n h = refl
as_picked false n h = sym (h refl)

told_as_is : (n : ℕ) → n < 4294967296 → noted n ≡ n
unfolding noted
told_as_is n h = as_picked (ltb n no_value) n (λ e. omega (arith, h, ltb-false n no_value e))

pub as_told : {n : ℕ} {l m : List ℕ} → n < 4294967296 → l ≡ m → n ∷ l ≡ noted n ∷ m
as_told {n} h e = rw (told_as_is n h, e)
