-- Where the bytes of a rating, a region, an advisory or a descriptor lie, its values are read.
use Prim.Native.Nat.{ℕ, ◌+◌, ◌*◌, ◌%◌, ◌^◌}
use mathlib.Core.Path.{◌≡◌, refl, ap, ◌∙◌}
use mathlib.Core.List.{List, [], ◌∷◌}
use native.Mathlib.Omega.{arith}
use lib.ListN.{length, length-append}
use Rattle.bytes_at.specs.Fields.{byte_at}
use Rattle.bytes_at.proofs.BitLaws.{byte_bits_lem, all_at, low_at}
use Rattle.format.proofs.KeptLaws.{laws}
use Rattle.format.specs.Lawful.{Lies}
use Rattle.format.specs.Repeats.{Bytes, encs}
use Rattle.format.specs.Formats.{last_byte, last_but_one, both, through, filled_by, times}
use Rattle.format.specs.Laws.OfBytes.{lies_at, lies_split}
use Rattle.format.specs.Laws.OfValues.{bytes_length}
use Rattle.format.specs.Values.{bits, reserved, head_bytes}
use Rattle.format.specs.Laws.OfNamed.{vals_there}
use Rattle.format.specs.Laws.OfTold.{told_there, last_tells, low8_tells, tag_tells}
use Rattle.format.proofs.SizedLaws.{sized8_there}
use Rattle.strings.specs.Strings.{text, sized_text}
use Rattle.descriptor.specs.Descriptors.{dimension, rated, region, advisory, content, descriptor}
use Rattle.rating.specs.Ratings.{region_size, descriptor_size}
use Rattle.rating.proofs.DescriptorLaws.{size_taken}
use Rattle.rating.proofs.MatchLaws.{region_taken}

-- ---- ratings
module _ (s : List ℕ) (z : Bytes s) (q : ℕ) (x : dimension.Val) (o : dimension.Formed (record {}) x) (l : Lies (dimension.enc x) s q) where
  pub rating_values : unfold dimension in ((byte_at s q ≡ x.dimension) × (byte_at s (q + 1) % 16 ≡ x.value))
  unfolding dimension
  rating_values =
      let v = vals_there (bits 8 ∷ reserved 4 ∷ bits 4 ∷ []) 2 refl s q (x.dimension, (x.r, (x.value, record {}))) o l in (
        all_at s q q 0 (omega arith) 8 (byte_bits_lem s q (z q)) ∙ ap (λ v. v.0) v,
        low_at s q (q + 1) 1 (omega arith) 4 4 (byte_bits_lem s (q + 1) (z (q + 1))) ∙ ap (λ v. v.1.1.0) v,
      )

pub ratings_length : (xs : List dimension.Val) → length (encs dimension.enc xs) ≡ 2 * length xs
unfolding dimension
ratings_length [] = refl
ratings_length (x ∷ xs) =
    let b : length (dimension.enc x) ≡ 2 = bytes_length 2 _ in
    omega (arith, length-append (dimension.enc x) (encs dimension.enc xs), ratings_length xs)

-- ---- regions
module _ (s : List ℕ) (z : Bytes s) (p : ℕ) (g : region.Val) (o : region.Formed (record {}) g) (l : Lies (region.enc g) s p) where
  -- its number, its ratings, and its text behind them
  pub region_values : unfold region dimension in (((byte_at s p ≡ g.region) × (byte_at s (p + 1) ≡ length g.ratings))
      × Lies (encs dimension.enc g.ratings) s (p + 2))
  unfolding region rated dimension
  region_values =
      let i = lies_split (rated.enc ((g.region, record {}), g.ratings)) (sized_text.enc (record {}, g.text)) s p l in
      let t =
      told_there (bits 8 ∷ []) 8 2 refl last_byte (λ v m. m) (last_tells (bits 8 ∷ []) 1 refl) (times dimension) (λ x. length x) (λ v m x o. o.0)
      s p (g.region, record {}) g.ratings o.0 i.0 in (
        (
          all_at s p p 0 (omega arith) 8 (byte_bits_lem s p (z p)) ∙ ap (λ v. v.0) t.0.0,
          all_at s p (p + 1) 1 (omega arith) 8 (byte_bits_lem s (p + 1) (z (p + 1))) ∙ t.0.1,
        ),
        t.1,
      )

  pub text_values : unfold region in ((byte_at s (p + 2 + 2 * length g.ratings) ≡ length (text.enc g.text))
      × Lies (text.enc g.text) s (p + 2 + 2 * length g.ratings + 1))
  unfolding region rated dimension sized_text
  text_values =
      let h = head_bytes (bits 8 ∷ []) 8 2 (g.region, record {}) (length g.ratings) in
      let b : length h ≡ 2 = bytes_length 2 _ in
      let i = lies_split (rated.enc ((g.region, record {}), g.ratings)) (sized_text.enc (record {}, g.text)) s p l in
      let n : p + length (rated.enc ((g.region, record {}), g.ratings)) ≡ p + 2 + 2 * length g.ratings =
      omega (arith, length-append h (encs dimension.enc g.ratings), ratings_length g.ratings) in
      sized8_there s z _ text g.text o.1 (lies_at _ s _ _ n i.1)

  pub region_size_lem : region_size s p ≡ length (region.enc g)
  region_size_lem =
      let e = p + length (region.enc g) in
      omega (arith, (region_taken s e p e ((region.law laws (record {})).sound s e p g o l (omega arith))).0)

-- ---- descriptors
module _ (judged : ℕ) (s : List ℕ) (z : Bytes s) (a : ℕ) (d : (descriptor judged).Val) (o : (descriptor judged).Formed (record {}) d)
    (l : Lies ((descriptor judged).enc d) s a) where
  pub descriptor_size_lem : descriptor_size s a ≡ length ((descriptor judged).enc d)
  descriptor_size_lem =
      let e = a + length ((descriptor judged).enc d) in
      omega (arith, (size_taken judged s e a e (((descriptor judged).law laws (record {})).sound s e a d o l (omega arith))).0)

  -- its tag, its length, and its content
  pub descriptor_values : unfold descriptor content advisory in (((byte_at s a ≡ d.tag) × (byte_at s (a + 1) ≡ length ((content judged).enc d.content)))
      × Lies ((content judged).enc d.content) s (a + 2))
  unfolding descriptor content advisory
  descriptor_values =
      let t =
      told_there (bits 8 ∷ []) 8 2 refl (both last_byte last_but_one) (λ v m. (m, v.0)) tag_tells (filled_by 1 (content judged)) (λ x. length ((content judged).enc x))
      (λ v m x o. o.0) s a (d.tag, record {}) d.content o l in (
        (
          all_at s a a 0 (omega arith) 8 (byte_bits_lem s a (z a)) ∙ ap (λ v. v.0) t.0.0,
          all_at s a (a + 1) 1 (omega arith) 8 (byte_bits_lem s (a + 1) (z (a + 1))) ∙ t.0.1,
        ),
        t.1,
      )

-- ---- advisories, in a descriptor at a
pub advisory_length : (v : advisory.Val) → unfold advisory region in (length (advisory.enc v) ≡ 1 + length (encs region.enc v.regions))
unfolding advisory region
advisory_length v =
    let h = head_bytes (reserved 2 ∷ []) 6 1 (v.r, record {}) (length v.regions) in
    let b : length h ≡ 1 = bytes_length 1 _ in
    omega (arith, length-append h (encs region.enc v.regions))

module _ (s : List ℕ) (z : Bytes s) (a : ℕ) (v : advisory.Val) (o : advisory.Formed (record {}) v) (l : Lies (advisory.enc v) s (a + 2)) where
  pub advisory_values : unfold advisory region in ((byte_at s (a + 2) % 64 ≡ length v.regions) × Lies (encs region.enc v.regions) s (a + 3))
  unfolding advisory region
  advisory_values =
      let t =
      told_there (reserved 2 ∷ []) 6 1 refl (through (λ x. x % 2 ^ 6) last_byte) (λ v m. m) (low8_tells (reserved 2 ∷ []) 0 2 6 refl (omega arith)) (times region)
      (λ x. length x) (λ v m x o. o.0) s (a + 2) (v.r, record {}) v.regions o l in (
        low_at s (a + 2) (a + 2) 0 (omega arith) 2 6 (byte_bits_lem s (a + 2) (z (a + 2))) ∙ t.0.1,
        lies_at (encs region.enc v.regions) s (a + 2 + 1) (a + 3) (omega arith) t.1,
      )
