-- The numbers of ratings, descriptors and advisories' texts have 32 bits, in a section and in a list by itself.
use Rattle.std.specs.Prelude.{Option, None, Some}
use Prim.Native.Nat.{ℕ, zero, suc, ◌+◌, ◌*◌, ◌%◌, ◌≤◌}
use mathlib.Core.Path.{◌≡◌, refl}
use mathlib.Core.Bool.{Bool, true, false}
use mathlib.Core.List.{List, map}
use native.Mathlib.Omega.{arith}
use borrow.Author.Tests.{ltb-false}
use lib.Dec.{eqb, ltb}
use Rattle.logic.specs.Choices.{pick, if_lt, if_eq}
use Rattle.refusal.specs.Outcomes.{resulted, or_none}
use Rattle.refusal.proofs.OutcomeLaws.{not_both}
use Rattle.bytes_at.specs.Fields.{byte_at}
use Rattle.format.specs.Repeats.{Bytes}
use Rattle.format.specs.Values.{One}
use Rattle.rating.specs.Ratings.{first_match, descriptor_size, rated_size, region_size, rating_in, text_in, descriptor_in}
use Rattle.rating.specs.Values.{Rated, no_advisory, region_absent, dimension_absent}
use Rattle.telling.specs.Told.{noted}
use Rattle.telling.specs.Ratings.{rating_numbers, descriptor_numbers, text_numbers}
use Rattle.guide_laws.proofs.SmallLaws.{Small, told_whole}

picked_by : {A : Type 0} (P : A → Type 0) (t : Bool) (a b : A) → P a → ((t ≡ false) → P b) → P (pick t a b)
picked_by P true a b h g = h
picked_by P false a b h g = g refl

-- what holds where nothing matches, and of all that can, holds of the first match
module _ {A : Type 0} (P : A → Type 0) (s : List ℕ) (size : ℕ → ℕ) (end x : ℕ) (told : ℕ → A) (absent : A) (nothing : P absent)
    (something : (q : ℕ) → q + size q ≤ end → P (told q)) where
  first_is : (n at : ℕ) → P (first_match s size n end at x told absent)
  unfolding first_match if_lt if_eq
  first_is zero at = nothing
  first_is (suc n) at =
      picked_by P (ltb end (at + size at)) _ _ nothing (λ e.
      let h = ltb-false end (at + size at) e in
      picked_by P (eqb (byte_at s at) x) _ _ (something at (omega arith)) (λ _. first_is n (at + size at)))

-- an answer that is there
abbrev pub OptionSmall : {A : Type 0} → (A → List ℕ) → Option A → Type 0
OptionSmall f None = One
OptionSmall f (Some a) = Small (f a)

pub or_none_whole : {A : Type 0} (f : A → List ℕ) (o : Option A) (a : A) → OptionSmall f o → or_none o ≡ resulted a → map noted (f a) ≡ f a
or_none_whole f None a h e = not_both 13 a e
or_none_whole f (Some b) a h e = told_whole f b a e h

module _ (s : List ℕ) (bytes : Bytes s) (end : ℕ) (low : end ≤ 4294960000) where
  pub rating_small : (region dimension from : ℕ) → Small (rating_numbers (rating_in s region dimension end from))
  unfolding rating_in
  rating_small region dimension from =
      let P : Rated → Type 0 = λ r. Small (rating_numbers r) in
      first_is P s (descriptor_size s) end 135 _ no_advisory (omega arith, (omega arith, record {})) (λ a _.
      first_is P s (region_size s) (a + descriptor_size s a) region _ region_absent (omega arith, (omega arith, record {})) (λ p _.
      first_is P s (λ q. 2) (p + region_size s p) dimension _ dimension_absent (omega arith, (omega arith, record {})) (λ q _.
      (omega arith, (omega arith, record {}))) (byte_at s (p + 1)) (p + 2)) (byte_at s (a + 2) % 64) (a + 3)) end from

  pub descriptor_small : (k at : ℕ) → OptionSmall descriptor_numbers (descriptor_in s end k at)
  unfolding descriptor_in if_lt descriptor_size
  descriptor_small zero at =
      picked_by (OptionSmall descriptor_numbers) (ltb end (at + (2 + byte_at s (at + 1)))) _ _ (record {}) (λ e.
      let h = ltb-false end (at + (2 + byte_at s (at + 1))) e in
      (omega (arith, bytes at), (omega arith, (omega (arith, bytes (at + 1)), record {}))))
  descriptor_small (suc k) at =
      picked_by (OptionSmall descriptor_numbers) (ltb end (at + (2 + byte_at s (at + 1)))) _ _ (record {}) (λ _. descriptor_small k _)

  pub text_small_in : (region from : ℕ) → OptionSmall text_numbers (text_in s region end from)
  unfolding text_in descriptor_size region_size rated_size
  text_small_in region from =
      let P = OptionSmall text_numbers in
      first_is P s (descriptor_size s) end 135 _ None (record {}) (λ a h.
      first_is P s (region_size s) (a + descriptor_size s a) region _ None (record {}) (λ p g.
      (omega (arith, bytes (p + 1), bytes (p + (2 + 2 * byte_at s (p + 1)))), (omega (arith, bytes (p + (2 + 2 * byte_at s (p + 1)))), record {})))
      (byte_at s (a + 2) % 64) (a + 3)) end from
