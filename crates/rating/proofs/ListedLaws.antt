-- A search among bytes is a search among the values that lie there one after the other.
use Prim.Native.Nat.{ℕ, zero, suc, ◌+◌, ◌≤◌, ◌<◌}
use mathlib.Core.Path.{◌≡◌, refl, sym, ap, ◌∙◌}
use mathlib.Core.List.{List, [], ◌∷◌, ◌++◌}
use mathlib.Core.Bool.{Bool, true, false}
use native.Mathlib.Omega.{arith}
use lib.ListN.{length, length-append}
use lib.Dec.{eqb}
use borrow.Author.Tests.{eqb-true}
use Rattle.bytes_at.specs.Fields.{byte_at}
use Rattle.logic.specs.Choices.{pick, if_eq}
use Rattle.logic.proofs.ChoiceLaws.{lt_no}
use Rattle.format.specs.Lawful.{Lies}
use Rattle.format.specs.Repeats.{All, encs}
use Rattle.format.specs.Laws.OfBytes.{lies_split}
use Rattle.format.specs.Listed.{first_with, sought}
use Rattle.rating.specs.Ratings.{first_match}

-- two choices by one test, whose sides are alike
module _ {A B : Type 0} (R : A → B → Type 0) where
  pick_alike : (t : Bool) (a b : A) (c d : B) → (t ≡ true → R a c) → R b d → R (pick t a b) (pick t c d)
  pick_alike true a b c d p q = p refl
  pick_alike false a b c d p q = q

  eq_alike : (x y : ℕ) (a b : A) (c d : B) → (x ≡ y → R a c) → R b d → R (if_eq x y a b) (if_eq x y c d)
  unfolding if_eq
  eq_alike x y a b c d p q = pick_alike (eqb x y) a b c d (λ e. p (eqb-true x y e)) q

-- values that are not empty are no more than their bytes
pub no_more : {X : Type 0} (Formed : X → Type 0) (enc : X → List ℕ) → ((x : X) → Formed x → 0 < length (enc x)) → (xs : List X) → All Formed xs
    → length xs ≤ length (encs enc xs)
no_more Formed enc full [] g = omega arith
no_more Formed enc full (x ∷ xs) g = omega (arith, full x g.0, length-append (enc x) (encs enc xs), no_more Formed enc full xs g.1)

module _ {X : Type 0} (Formed : X → Type 0) (enc : X → List ℕ) (key : X → ℕ) (s : List ℕ) (n : ℕ) where
  -- what is told of a place is what is said of the value there: so it is of the first whose key is n, if nothing is found behind
  -- the values
  module _ {A : Type 0} (size : ℕ → ℕ) (end : ℕ) (told : ℕ → A) (says : ℕ → X → A) (absent : A)
      (there : (a : ℕ) (x : X) → Formed x → Lies (enc x) s a
      → (size a ≡ length (enc x)) × ((byte_at s a ≡ key x) × (key x ≡ n → told a ≡ says a x))) where
    pub first_there : (m k at : ℕ) (xs : List X) → k ≡ length xs + m → All Formed xs → Lies (encs enc xs) s at → at + length (encs enc xs) ≤ end
        → first_match s size m end (at + length (encs enc xs)) n told absent ≡ absent
        → first_match s size k end at n told absent ≡ first_with enc key n says absent at xs
    unfolding first_match first_with
    first_there m k at [] c g l h p =
        let d : k ≡ m = omega arith in
        let e : at ≡ at + 0 = omega arith in
        (λ i. first_match s size (d i) end (e i) n told absent) ∙ p
    first_there m zero at (x ∷ xs) c g l h p = absurd (omega arith)
    first_there m (suc k) at (x ∷ xs) c g l h p =
        let j = length-append (enc x) (encs enc xs) in
        let i = lies_split (enc x) (encs enc xs) s at l in
        let t = there at x g.0 i.0 in
        let e : at + length (enc x) + length (encs enc xs) ≡ at + length (enc x ++ encs enc xs) = omega arith in
        let r =
        first_there m k (at + length (enc x)) xs (omega arith) g.1 i.1 (omega arith) (ap (λ a. first_match s size m end a n told absent) e ∙ p) in
        sym (lt_no end (at + size at) absent _ (omega arith) refl)
        ∙ rw (t.0, t.1.0) (eq_alike ◌≡◌ (key x) n _ _ _ _ t.1.1 r)

  -- what is said of a value with its place and what is said without it are alike: so they are of the first whose key is n
  module _ {A B : Type 0} (R : A → B → Type 0) (says : ℕ → X → A) (absent : A) (plain : X → B) (missing : B) (of_none : R absent missing)
      (of_one : (a : ℕ) (x : X) → Formed x → Lies (enc x) s a → R (says a x) (plain x)) where
    pub sought_there : (at : ℕ) (xs : List X) → All Formed xs → Lies (encs enc xs) s at
        → R (first_with enc key n says absent at xs) (sought key n plain missing xs)
    unfolding first_with sought
    sought_there at [] g l = of_none
    sought_there at (x ∷ xs) g l =
        let i = lies_split (enc x) (encs enc xs) s at l in
        eq_alike R (key x) n _ _ _ _ (λ e. of_one at x g.0 i.0) (sought_there (at + length (enc x)) xs g.1 i.1)

-- what is said without a place is said wherever the values lie
pub placeless : {X A : Type 0} (enc : X → List ℕ) (key : X → ℕ) (n : ℕ) (plain : X → A) (absent : A) (at : ℕ) (xs : List X)
    → first_with enc key n (λ a. plain) absent at xs ≡ sought key n plain absent xs
unfolding first_with sought
placeless enc key n plain absent at [] = refl
placeless enc key n plain absent at (x ∷ xs) = ap (if_eq (key x) n (plain x)) (placeless enc key n plain absent (at + length (enc x)) xs)
