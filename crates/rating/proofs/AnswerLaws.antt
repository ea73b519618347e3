-- What holds of every answer to a question.
use Rattle.std.specs.Prelude.{Option, None, Some}
use Prim.Native.Nat.{ℕ, zero, suc, ◌+◌, ◌-◌, ◌%◌, ◌≤◌, ◌<◌}
use mathlib.Core.Path.{◌≡◌, refl, subst}
use mathlib.Core.Logic.{⊎_elim}
use mathlib.Core.List.{List}
use mathlib.Core.Bool.{Bool, true, false}
use native.Mathlib.Nat.{eq-zero-or-pos}
use native.Mathlib.Omega.{arith}
use lib.Dec.{eqb}
use borrow.Author.Tests.{eqb-true}
use Rattle.std.specs.Prelude.{Option, None, Some}
use Rattle.part.specs.declared.Part.{Part}
use Rattle.bytes_at.specs.Fields.{byte_at}
use Rattle.logic.specs.Choices.{pick, if_eq}
use Rattle.logic.proofs.ChoiceLaws.{lt_no}
use Rattle.format.specs.Repeats.{Bytes}
use Rattle.rating.specs.Ratings.{descriptor_size, region_size, first_match, advisory_in, region_in, rated_by_region, rating_in, region_text_at, text_in}
use Rattle.rating.specs.Values.{Rated, no_advisory, region_absent, dimension_absent, value}
use Rattle.rating.proofs.FirstLaws.{first_past}

-- ---- what a search for x answers
either : {A : Type 0} (P : A → Type 0) (t : Bool) (a b : A) → (t ≡ true → P a) → P b → P (pick t a b)
either P true a b p q = p refl
either P false a b p q = q

-- `Left n at` is what is known of the n that are left at a place. Where it goes on from one to the next, and what is asked of an
-- answer holds where nothing is found, and of each that fits and begins with x, it holds of what is answered
module _ {A : Type 0} (P : A → Type 0) (s : List ℕ) (size : ℕ → ℕ) (end x : ℕ) (told : ℕ → A) (absent : A) (Left : ℕ → ℕ → Type 0)
    (goes_on : (n at : ℕ) → at + size at ≤ end → Left (suc n) at → Left n (at + size at)) (of-absent : P absent)
    (of_told : (n at : ℕ) → at + size at ≤ end → Left (suc n) at → byte_at s at ≡ x → P (told at)) where
  pub first_left : (n at : ℕ) → Left n at → P (first_match s size n end at x told absent)
  unfolding first_match if_eq
  first_left zero at g = of-absent
  first_left (suc n) at g = ⊎_elim
      (λ h. subst P (lt_no end (at + size at) _ _ (omega arith) refl)
      (either P (eqb (byte_at s at) x) _ _ (λ e. of_told n at (omega arith) g (eqb-true _ x e))
      (first_left n (at + size at) (goes_on n at (omega arith) g))))
      (λ h. subst P (first_past s size end at x told absent _ refl (suc n) (omega arith)) of-absent)
      (eq-zero-or-pos (at + size at - end))

-- the same where nothing is known
first_all : {A : Type 0} (P : A → Type 0) (s : List ℕ) (size : ℕ → ℕ) (end x : ℕ) (told : ℕ → A) (absent : A) → P absent
    → ((at : ℕ) → at + size at ≤ end → byte_at s at ≡ x → P (told at)) → (n at : ℕ) → P (first_match s size n end at x told absent)
first_all P s size end x told absent of-absent of_told n at =
    first_left P s size end x told absent (λ n at. record {}) (λ n at h g. record {}) of-absent (λ n at h g e. of_told at h e) n at (record {})

-- a value is one of 0 to 15
abbrev Below : Rated → Type 0
Below (value v) = v < 16
Below no_advisory = record {}
Below region_absent = record {}
Below dimension_absent = record {}

pub rating_below : (s : List ℕ) (region dimension end from v : ℕ) → rating_in s region dimension end from ≡ value v → v < 16
unfolding rating_in
rating_below s region dimension end from v e =
    subst Below e
    (first_all Below s _ end _ _ no_advisory (record {})
    (λ a h x. first_all Below s _ _ _ _ region_absent (record {})
    (λ p l y. first_all Below s _ _ _ _ dimension_absent (record {}) (λ q m z. omega arith) _ _)
    _ _)
    _ _)

-- a text stands within the list
abbrev Within : ℕ → Option Part → Type 0
Within end (Some t) = t.start + t.length ≤ end
Within end None = record {}

within : (s : List ℕ) (end p : ℕ) → p + region_size s p ≤ end → Within end (region_text_at s p)
unfolding region_size
within s end p h = omega arith

pub text_within : (s : List ℕ) (region end from : ℕ) (t : Part) → text_in s region end from ≡ Some t → t.start + t.length ≤ end
unfolding text_in
text_within s region end from t e =
    subst (Within end) e
    (first_all (Within end) s _ end _ _ None (record {})
    (λ a h x. first_all (Within end) s _ _ _ _ None (record {}) (λ p l y. within s end p (omega arith)) _ _)
    _ _)

-- ---- a number that no byte has is absent
module _ (s : List ℕ) (bytes : Bytes s) where
  first_wide : {A : Type 0} (size : ℕ → ℕ) (n end at x : ℕ) (told : ℕ → A) (absent : A) → 255 < x
      → first_match s size n end at x told absent ≡ absent
  first_wide size n end at x told absent h =
      first_all (λ r. r ≡ absent) s size end x told absent refl (λ a l e. absurd (omega (arith, bytes a))) n at

  pub wide_region : (region dimension end from : ℕ) → 255 < region
      → rating_in s region dimension end from ≡ advisory_in s end from (λ a. region_absent) no_advisory
  unfolding rating_in
  wide_region region dimension end from h =
      λ i. advisory_in s end from
      (λ a. first_wide (region_size s) (byte_at s (a + 2) % 64) (a + descriptor_size s a) (a + 3) region (rated_by_region s dimension) region_absent h i)
      no_advisory

  pub wide_dimension : (region dimension end from : ℕ) → 255 < dimension
      → rating_in s region dimension end from ≡ advisory_in s end from (λ a. region_in s region a (λ p. dimension_absent) region_absent) no_advisory
  unfolding rating_in
  wide_dimension region dimension end from h =
      λ i. advisory_in s end from
      (λ a. region_in s region a
      (λ p. first_wide (λ q. 2) (byte_at s (p + 1)) (p + region_size s p) (p + 2) dimension (λ q. value (byte_at s (q + 1) % 16)) dimension_absent h i)
      region_absent)
      no_advisory
