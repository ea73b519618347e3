-- Tests on numbers that refuse where they fail: which way one goes, and what one has shown that let a result through.
use Prim.Native.Nat.{ℕ, ◌≤◌, ◌<◌}
use mathlib.Core.Path.{◌≡◌, ap}
use mathlib.Core.Bool.{Bool, true, false, not}
use lib.Dec.{eqb, leb, ltb}
use borrow.Author.Tests.{lt-ltb, le-ltb, le-leb, lt-leb, eq-eqb, ne_eqb, ltb-true, leb-true, eqb-true, eqb-false, not-true}
use Rattle.refusal.specs.Outcomes.{Outcome, refused, resulted, or_refuse}
use Rattle.refusal.proofs.OutcomeLaws.{went_on}

-- ---- which way a test goes
module _ {A : Type 0} (n : ℕ) {t : Bool} (o : Outcome A) {r : Outcome A} where
  pub lets : t ≡ true → r ≡ o → r ≡ or_refuse n t o
  unfolding or_refuse
  lets h e = rw h e

  pub stops : t ≡ false → r ≡ refused n → r ≡ or_refuse n t o
  unfolding or_refuse
  stops h e = rw h e

module _ {A : Type 0} (n x y : ℕ) (o : Outcome A) {r : Outcome A} where
  pub lets_le : x ≤ y → r ≡ o → r ≡ or_refuse n (leb x y) o
  lets_le h e = lets n o (le-leb x y h) e

  pub stops_le : y < x → r ≡ refused n → r ≡ or_refuse n (leb x y) o
  stops_le h e = stops n o (lt-leb x y h) e

  pub lets_lt : x < y → r ≡ o → r ≡ or_refuse n (ltb x y) o
  lets_lt h e = lets n o (lt-ltb x y h) e

  pub stops_lt : y ≤ x → r ≡ refused n → r ≡ or_refuse n (ltb x y) o
  stops_lt h e = stops n o (le-ltb x y h) e

  pub lets_eq : x ≡ y → r ≡ o → r ≡ or_refuse n (eqb x y) o
  lets_eq h e = lets n o (eq-eqb x y h) e

  pub stops_eq : (x ≡ y → ⊥) → r ≡ refused n → r ≡ or_refuse n (eqb x y) o
  stops_eq h e = stops n o (ne_eqb x y h) e

  pub lets_ne : (x ≡ y → ⊥) → r ≡ o → r ≡ or_refuse n (not (eqb x y)) o
  lets_ne h e = lets n o (ap not (ne_eqb x y h)) e

  pub stops_ne : x ≡ y → r ≡ refused n → r ≡ or_refuse n (not (eqb x y)) o
  stops_ne h e = stops n o (ap not (eq-eqb x y h)) e

-- ---- a chain of tests that ends in a result has passed each of them
module _ {A : Type 0} (n x y : ℕ) (o : Outcome A) (a : A) where
  pub passed_le : or_refuse n (leb x y) o ≡ resulted a → (x ≤ y) × (o ≡ resulted a)
  passed_le e = let p = went_on n _ o a e in (leb-true x y p.0, p.1)

  pub passed_lt : or_refuse n (ltb x y) o ≡ resulted a → (x < y) × (o ≡ resulted a)
  passed_lt e = let p = went_on n _ o a e in (ltb-true x y p.0, p.1)

  pub passed_eq : or_refuse n (eqb x y) o ≡ resulted a → (x ≡ y) × (o ≡ resulted a)
  passed_eq e = let p = went_on n _ o a e in (eqb-true x y p.0, p.1)

  pub passed_ne : or_refuse n (not (eqb x y)) o ≡ resulted a → (x ≡ y → ⊥) × (o ≡ resulted a)
  passed_ne e = let p = went_on n _ o a e in (eqb-false x y (not-true _ p.0), p.1)

-- ---- what holds of the refusal, and of what is let through, holds either way
pub either_way : {A : Type 0} (P : Outcome A → Type 0) (n : ℕ) (t : Bool) (o : Outcome A) → P (refused n) → P o → P (or_refuse n t o)
unfolding or_refuse
either_way P n true o h g = g
either_way P n false o h g = h
