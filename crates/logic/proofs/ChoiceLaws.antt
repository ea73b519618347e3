-- Which way a choice goes: r is the choice where it is the side that the test picks.
use Prim.Native.Nat.{ℕ, ◌≤◌, ◌<◌}
use mathlib.Core.Path.{◌≡◌}
use mathlib.Core.Bool.{true, false}
use lib.Dec.{eqb}
use borrow.Author.Tests.{lt-ltb, le-ltb, eq-eqb, ne_eqb}
use Rattle.logic.specs.Choices.{if_lt, if_eq}

module _ {A : Type 0} (x y : ℕ) (a b : A) {r : A} where
  pub lt_yes : x < y → r ≡ a → r ≡ if_lt x y a b
  unfolding if_lt
  lt_yes h e = rw (lt-ltb x y h) e

  pub lt_no : y ≤ x → r ≡ b → r ≡ if_lt x y a b
  unfolding if_lt
  lt_no h e = rw (le-ltb x y h) e

  pub eq_yes : x ≡ y → r ≡ a → r ≡ if_eq x y a b
  unfolding if_eq
  eq_yes h e = rw (eq-eqb x y h) e

  pub eq_no : (x ≡ y → ⊥) → r ≡ b → r ≡ if_eq x y a b
  unfolding if_eq
  eq_no h e = rw (ne_eqb x y h) e

  -- the same where the test is known by its Bool
  pub test_yes : eqb x y ≡ true → r ≡ a → r ≡ if_eq x y a b
  unfolding if_eq
  test_yes h e = rw h e

  pub test_no : eqb x y ≡ false → r ≡ b → r ≡ if_eq x y a b
  unfolding if_eq
  test_no h e = rw h e
