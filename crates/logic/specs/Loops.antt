-- Statements over the numbers below a bound, as definitions that compute: what is said of all records, or of all places.
use Rattle.std.specs.Prelude.{ℕ, zero, suc, ◌+◌, Bool, true, false, ltb}
use Rattle.logic.specs.Choices.{pick}

-- and; if .. then. Both are shut, so that a rule that is made of them is read part by part
infixr 35 ◌&◌
unfoldable pub ◌&◌ : Bool → Bool → Bool
true & b = b
false & b = false

infixr 30 ◌⇒◌
unfoldable pub ◌⇒◌ : Bool → Bool → Bool
true ⇒ b = b
false ⇒ b = true

-- f holds of every number below n
unfoldable pub all : ℕ → (ℕ → Bool) → Bool
all zero f = true
all (suc n) f = all n f & f n

-- f holds of some number below n
unfoldable pub any : ℕ → (ℕ → Bool) → Bool
any zero f = false
any (suc n) f = pick (f n) true (any n f)

-- the sum of f over the numbers below n
unfoldable pub sum : ℕ → (ℕ → ℕ) → ℕ
sum zero f = 0
sum (suc n) f = sum n f + f n

abbrev pub one : Bool → ℕ
one true = 1
one false = 0

-- how many numbers below n have p
abbrev pub count : ℕ → (ℕ → Bool) → ℕ
count n p = sum n (λ i. one (p i))

-- the first number below n that has p, else n
unfoldable pub first : ℕ → (ℕ → Bool) → ℕ
first zero p = 0
first (suc n) p = pick (ltb (first n p) n) (first n p) (pick (p n) n (suc n))
