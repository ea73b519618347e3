-- One turn of a search: what is found from a place on is found where the search stands, or from the next place on.
use Prim.Native.Nat.{ℕ, zero, suc, ◌+◌, ◌-◌, ◌*◌, ◌≤◌, ◌<◌}
use mathlib.Core.Path.{◌≡◌, refl, sym, ◌∙◌}
use mathlib.Core.Logic.{⊎_elim}
use mathlib.Core.List.{List}
use native.Mathlib.Nat.{eq-zero-or-pos}
use native.Mathlib.Numerals.{sub-one}
use native.Mathlib.Omega.{arith}
use lib.ListN.{length}
use Rattle.std.specs.Prelude.{None, Some}
use Rattle.bytes_at.specs.Fields.{byte_at}
use Rattle.logic.proofs.ChoiceLaws.{lt_yes, lt_no, eq_yes, eq_no}
use Rattle.bytes_at.proofs.FieldLaws.{past}
use Rattle.rating.specs.Ratings.{descriptor_size, rated_size, region_size, first_match, descriptor_at, descriptor_in}

-- a byte that is not 0 stands within the section
pub stands : (s : List ℕ) (at b : ℕ) → b ≡ byte_at s at → 0 < b → at < length s
stands s at b e h = ⊎_elim
    (λ z. absurd (omega (arith, past s at (omega arith))))
    (λ z. omega arith)
    (eq-zero-or-pos (length s - at))

-- the dimensions of a region stand within it
pub dimensions_fit : (s : List ℕ) (p d : ℕ) → d ≡ byte_at s (p + 1) → p + 2 + 2 * d ≤ p + region_size s p
unfolding region_size rated_size
dimensions_fit s p d e = omega arith

module _ {A : Type 0} (s : List ℕ) (size : ℕ → ℕ) (end at x : ℕ) (told : ℕ → A) (absent : A) where
  -- nothing is left
  pub first_none : (n : ℕ) → n ≡ 0 → absent ≡ first_match s size n end at x told absent
  unfolding first_match
  first_none n e = rw e

  -- k is the size of what stands at the place, and b its first byte
  module _ (k : ℕ) (sized : k ≡ size at) where
    -- it does not fit
    pub first_past : (n : ℕ) → end < at + k → absent ≡ first_match s size n end at x told absent
    unfolding first_match
    first_past zero h = refl
    first_past (suc n) h = lt_yes _ _ _ _ (omega arith) refl

    module _ (b : ℕ) (begins : b ≡ byte_at s at) (fits : at + k ≤ end) where
      -- it is the one
      pub first_here : (n : ℕ) → 0 < n → b ≡ x → told at ≡ first_match s size n end at x told absent
      unfolding first_match
      first_here zero h e = absurd (omega arith)
      first_here (suc n) h e = lt_no _ _ _ _ (omega arith) (eq_yes _ _ _ _ (sym begins ∙ e) refl)

      -- it is another
      pub first_next : (n : ℕ) → 0 < n → (b ≡ x → ⊥)
          → first_match s size (n - 1) end (at + k) x told absent ≡ first_match s size n end at x told absent
      unfolding first_match
      first_next zero h e = absurd (omega arith)
      first_next (suc n) h e = lt_no _ _ _ _ (omega arith) (eq_no _ _ _ _ (λ f. e (begins ∙ f)) (rw (sub-one, sized)))

-- the same for the descriptor of a number
module _ (s : List ℕ) (end at k : ℕ) (sized : k ≡ descriptor_size s at) where
  pub none_past : (n : ℕ) → end < at + k → None ≡ descriptor_in s end n at
  unfolding descriptor_in
  none_past zero h = lt_yes _ _ _ _ (omega arith) refl
  none_past (suc n) h = lt_yes _ _ _ _ (omega arith) refl

  pub descriptor_here : (n : ℕ) → n ≡ 0 → at + k ≤ end → Some (descriptor_at s at) ≡ descriptor_in s end n at
  unfolding descriptor_in
  descriptor_here n e h = rw e (lt_no _ _ _ _ (omega arith) refl)

  pub descriptor_next : (n : ℕ) → (n ≡ 0 → ⊥) → at + k ≤ end → descriptor_in s end (n - 1) (at + k) ≡ descriptor_in s end n at
  unfolding descriptor_in
  descriptor_next zero e h = absurd (e refl)
  descriptor_next (suc n) e h = lt_no _ _ _ _ (omega arith) (rw (sub-one, sized))
