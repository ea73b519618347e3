-- Choices by a test. `if_lt` and `if_eq` are shut, so that a definition that is a nest of them is read test by test.
use Rattle.std.specs.Prelude.{ℕ, Bool, true, false, eqb, ltb}

-- the first of the two where the test holds, else the second
abbrev pub pick : {A : Type 0} → Bool → A → A → A
pick true a b = a
pick false a b = b

-- where x < y the first, else the second
unfoldable pub if_lt : {A : Type 0} → ℕ → ℕ → A → A → A
if_lt x y a b = pick (ltb x y) a b

-- where x ≡ y the first, else the second
unfoldable pub if_eq : {A : Type 0} → ℕ → ℕ → A → A → A
if_eq x y a b = pick (eqb x y) a b
