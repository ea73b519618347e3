-- What crosses to C. A call answers a number: 0 where it is done, and else the refusal's. Its result stands in numbers of 32 bits that the
-- caller lends; a refusal leaves them as they were. SCOPE 6.1.
use Rattle.std.specs.Prelude.{ℕ, ◌≡◌, List, map, [], ◌∷◌, ltb}
use Rattle.logic.specs.Choices.{pick}
use Rattle.refusal.specs.Outcomes.{Outcome, refused, resulted}
use Rattle.refusal.specs.Outputs.{no_value, number_in}

-- a number as it is told; one that is too large for 32 bits would be told as no value
unfoldable pub noted : ℕ → ℕ
noted n = pick (ltb n no_value) n no_value

-- the lent numbers afterwards, where f says which numbers a result is
abbrev pub told_in : {A : Type 0} → (A → List ℕ) → List ℕ → Outcome A → List ℕ
told_in f l (refused k) = l
told_in f l (resulted a) = map noted (f a)

-- a call of the outcome x, which was lent the numbers l, answered r and left the numbers e
pub record Told {A : Type 0} (f : A → List ℕ) (x : Outcome A) (l : List ℕ) (r : ℕ) (e : List ℕ) : Type 0 where
  pub number : r ≡ number_in x
  pub numbers : e ≡ told_in f l x

-- a result of one number: a count, a length or an offset
abbrev pub one_number : ℕ → List ℕ
one_number n = n ∷ []
