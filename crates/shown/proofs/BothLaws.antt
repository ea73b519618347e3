-- What holds of both sides of a choice holds of the choice.
use Prim.Native.Nat.{ℕ}
use mathlib.Core.Bool.{Bool, true, false}
use lib.Dec.{eqb, ltb}
use Rattle.logic.specs.Choices.{pick, if_lt, if_eq}

module _ {A : Type 0} (P : A → Type 0) (a b : A) (p : P a) (q : P b) where
  pub either : (t : Bool) → P (pick t a b)
  either true = p
  either false = q

  pub lt_either : (x y : ℕ) → P (if_lt x y a b)
  unfolding if_lt
  lt_either x y = either (ltb x y)

  pub eq_either : (x y : ℕ) → P (if_eq x y a b)
  unfolding if_eq
  eq_either x y = either (eqb x y)
