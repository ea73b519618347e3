-- What is told of values that stand one after the other, the first at a place: each takes as many bytes as its encoding has.
use Rattle.std.specs.Prelude.{ℕ, zero, suc, ◌+◌, List, [], ◌∷◌, ◌++◌, length}
use Rattle.logic.specs.Choices.{if_eq}

-- of number i, counted from 0, its value and its place are told; where there is none, the answer is `absent`
unfoldable pub nth_of : {X A : Type 0} → (X → List ℕ) → (ℕ → X → A) → A → ℕ → List X → ℕ → A
nth_of enc tell absent a [] i = absent
nth_of enc tell absent a (x ∷ xs) zero = tell a x
nth_of enc tell absent a (x ∷ xs) (suc i) = nth_of enc tell absent (a + length (enc x)) xs i

-- of the first whose key is n
unfoldable pub first_with : {X A : Type 0} → (X → List ℕ) → (X → ℕ) → ℕ → (ℕ → X → A) → A → ℕ → List X → A
first_with enc key n tell absent a [] = absent
first_with enc key n tell absent a (x ∷ xs) = if_eq (key x) n (tell a x) (first_with enc key n tell absent (a + length (enc x)) xs)

-- the same where the place is not told
unfoldable pub sought : {X A : Type 0} → (X → ℕ) → ℕ → (X → A) → A → List X → A
sought key n tell absent [] = absent
sought key n tell absent (x ∷ xs) = if_eq (key x) n (tell x) (sought key n tell absent xs)

-- of all of them, one after the other
unfoldable pub all_of : {X : Type 0} → (X → List ℕ) → (ℕ → X → List ℕ) → ℕ → List X → List ℕ
all_of enc tell a [] = []
all_of enc tell a (x ∷ xs) = tell a x ++ all_of enc tell (a + length (enc x)) xs
