-- A number that is none of the keys 0 to n - 1 is n or more.
use mathlib.Core.Path.{◌≡◌, sym}
use mathlib.Core.Logic.{inl, inr}
use Prim.Native.Nat.{ℕ, zero, suc, ◌≤◌}
use native.Mathlib.Nat.{eq-or-lt_of_le}
use native.Mathlib.Omega.{arith}

unfoldable pub Nots : ℕ → ℕ → Type 0
Nots zero i = Unit
Nots (suc n) i = Nots n i × (i ≡ n → ⊥)

pub past : (n : ℕ) {i : ℕ} → Nots n i → n ≤ i
unfolding Nots
past zero h = omega arith
past (suc n) (h, miss) = elim (eq-or-lt_of_le (past n h)) [ inl e ↦ absurd (miss (sym e)) | inr l ↦ l ]
