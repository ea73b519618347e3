-- The tie of what is answered to the format: where the encoding of a descriptor list lies, what is answered is told by its values.
use Rattle.std.specs.Prelude.{None, Some}
use Prim.Native.Nat.{ℕ, zero, suc, ◌+◌, ◌-◌, ◌*◌, ◌%◌}
use mathlib.Core.Path.{◌≡◌, refl, sym, ap, ◌∙◌}
use mathlib.Core.Logic.{◌⊎◌, inl, inr}
use mathlib.Core.List.{List, [], ◌∷◌}
use native.Mathlib.Numerals.{sub-one}
use native.Mathlib.Omega.{arith}
use lib.ListN.{length, length-append}
use borrow.Author.Tests.{eqb-false}
use Rattle.std.specs.Prelude.{None, Some}
use Rattle.bytes_at.specs.Fields.{byte_at}
use Rattle.format.specs.Lawful.{Lies}
use Rattle.format.specs.Repeats.{Bytes, encs}
use Rattle.format.specs.Laws.OfBytes.{lies_split}
use Rattle.format.specs.Laws.OfValues.{bytes_length}
use Rattle.format.specs.Laws.OfFull.{tagged_full}
use Rattle.format.specs.Listed.{first_with, nth_of}
use Rattle.format.proofs.ListedLaws.{nth_said}
use Rattle.part.specs.Parts.{bytes_in}
use Rattle.descriptor.specs.Descriptors.{dimension, region, advisory, content, descriptor, descriptors, descriptors_of, region_bytes, content_bytes, descriptor_bytes, content_advisory}
use Rattle.rating.specs.Ratings.{descriptor_size, rated_size, region_size, advisory_in, region_in, rated_by_region, rated_by_advisory, rating_in, region_text_at, text_in, descriptor_in}
use Rattle.rating.specs.Values.{region_absent, dimension_absent, no_advisory, value, by_region, by_advisory, rated_by, region_place, place_from, text_place, descriptor_for}
use Rattle.rating.proofs.FirstLaws.{dimensions_fit, first_none, first_past, none_past, descriptor_here, descriptor_next}
use Rattle.rating.proofs.DescriptorLaws.{two}
use Rattle.rating.proofs.ListedLaws.{no_more, first_there, placeless}
use Rattle.rating.proofs.ValueLaws.{rating_values, ratings_length, region_values, text_values, region_size_lem, advisory_length, advisory_values, descriptor_values, descriptor_size_lem}

module _ (s : List ℕ) (z : Bytes s) where
  -- ---- a region: its answer for dimension y, and where its text stands
  region_rated : (y p : ℕ) (g : region.Val) → region.Formed (record {}) g → Lies (region.enc g) s p
      → unfold region in (rated_by_region s y p ≡ by_region y g)
  unfolding region dimension by_region
  region_rated y p g o l =
      let v = region_values s z p g o l in
      let n = ratings_length g.ratings in
      first_there (dimension.Formed (record {})) dimension.enc (λ q. q.dimension) s y (λ q. 2) (p + region_size s p)
      (λ q. value (byte_at s (q + 1) % 16)) (λ q x. value x.value) dimension_absent
      (λ q x o l. let t = rating_values s z q x o l in (sym (bytes_length 2 _), (t.0, λ e. ap value t.1)))
      0 (byte_at s (p + 1)) (p + 2) g.ratings (omega arith) o.0.1.1.1 v.1 (omega (arith, dimensions_fit s p _ refl))
      (sym (first_none s (λ q. 2) _ _ y _ _ 0 refl))
      ∙ placeless dimension.enc (λ q. q.dimension) y (λ q. value q.value) dimension_absent (p + 2) g.ratings

  region_place_lem : (p : ℕ) (g : region.Val) → region.Formed (record {}) g → Lies (region.enc g) s p → unfold region in (region_text_at s p ≡ region_place p g)
  unfolding region rated_size region_place
  region_place_lem p g o l =
      let n = (region_values s z p g o l).0.1 in
      let e : p + (2 + 2 * byte_at s (p + 1)) ≡ p + 2 + 2 * length g.ratings = omega arith in
      let t = (text_values s z p g o l).0 in
      λ i. Some (record { start = e i + 1; length = (ap (byte_at s) e ∙ t) i })

  -- ---- an advisory in a descriptor at a, asked for region x: what is told of a region's place is what is said of the region
  module _ {A : Type 0} (x : ℕ) (told : ℕ → A) (says : ℕ → region.Val → A) (absent : A)
      (there : (p : ℕ) (g : region.Val) → region.Formed (record {}) g → Lies (region.enc g) s p → told p ≡ says p g) where
    regions_there : (a : ℕ) (v : advisory.Val) → advisory.Formed (record {}) v → Lies (advisory.enc v) s (a + 2)
        → byte_at s (a + 1) ≡ length (advisory.enc v)
        → unfold advisory region in (region_in s x a told absent ≡ first_with region_bytes (λ g. g.region) x says absent (a + 3) v.regions)
    unfolding advisory region region_bytes descriptor_size
    regions_there a v o l c =
        let t = advisory_values s z a v o l in
        let n = advisory_length v in
        first_there (region.Formed (record {})) region.enc (λ g. g.region) s x (region_size s) (a + descriptor_size s a) told says absent
        (λ p g o l. (region_size_lem s z p g o l, ((region_values s z p g o l).0.0, λ e. there p g o l)))
        0 (byte_at s (a + 2) % 64) (a + 3) v.regions (omega arith) o.1.1.1 t.1 (omega arith)
        (sym (first_none s (region_size s) _ _ x told absent 0 refl))

  advisory_rated : (x y a : ℕ) (v : advisory.Val) → advisory.Formed (record {}) v → Lies (advisory.enc v) s (a + 2)
      → byte_at s (a + 1) ≡ length (advisory.enc v) → unfold advisory in (rated_by_advisory s x y a ≡ by_advisory x y (inl v))
  unfolding advisory region by_advisory
  advisory_rated x y a v o l n =
      regions_there x (rated_by_region s y) (λ p. by_region y) region_absent (region_rated y) a v o l n
      ∙ placeless region_bytes (λ g. g.region) x (by_region y) region_absent (a + 3) v.regions

  advisory_place : (x a : ℕ) (v : advisory.Val) → advisory.Formed (record {}) v → Lies (advisory.enc v) s (a + 2)
      → byte_at s (a + 1) ≡ length (advisory.enc v) → unfold advisory in (region_in s x a (region_text_at s) None ≡ place_from x a (inl v))
  unfolding advisory region place_from
  advisory_place x = regions_there x (region_text_at s) region_place None region_place_lem

  -- ---- the list: what is told of the place of a content advisory is what is said of the advisory
  module _ {A : Type 0} (told : ℕ → A) (says : ℕ → advisory.Val ⊎ List ℕ → A) (absent : A)
      (there : (a : ℕ) (v : advisory.Val) → advisory.Formed (record {}) v → Lies (advisory.enc v) s (a + 2)
      → byte_at s (a + 1) ≡ length (advisory.enc v) → told a ≡ says a (inl v)) where
    content_there : (a tag : ℕ) (c : (content content_advisory).Val) → (content content_advisory).Formed tag c
        → Lies ((content content_advisory).enc c) s (a + 2) → byte_at s (a + 1) ≡ length ((content content_advisory).enc c)
        → tag ≡ content_advisory → unfold content in (told a ≡ says a c)
    unfolding content
    content_there a tag (inl v) o l n e = there a v o.1 l n
    content_there a tag (inr b) o l n e = absurd (eqb-false content_advisory tag o.0 (sym e))

    list_there : (end from : ℕ) (ds : (descriptors content_advisory).Val) → (descriptors content_advisory).Formed (record {}) ds
        → Lies ((descriptors content_advisory).enc ds) s from → end ≡ from + length ((descriptors content_advisory).enc ds)
        → unfold advisory in (advisory_in s end from told absent ≡ first_with (descriptor_bytes content_advisory) (λ d. d.tag) content_advisory
        (λ a d. says a d.content) absent from (descriptors_of content_advisory ds))
    unfolding descriptors descriptor content advisory descriptors_of descriptor_bytes
    list_there end from ds o l e =
        let f = descriptor content_advisory in
        let n = no_more (f.Formed (record {})) f.enc (λ d o. tagged_full (content content_advisory) ((d.tag, record {}), d.content) o) ds o in
        let b = two s (from + length (encs f.enc ds)) in
        first_there (f.Formed (record {})) f.enc (λ d. d.tag) s content_advisory (descriptor_size s) end told (λ a d. says a d.content) absent
        (λ a d o l.
        let v = descriptor_values content_advisory s z a d o l in
        (descriptor_size_lem content_advisory s z a d o l, (v.0.0, content_there a d.tag d.content o.1.1.1 v.1 v.0.1)))
        (end - length ds) end from ds (omega arith) o l (omega arith)
        (sym (first_past s (descriptor_size s) end _ content_advisory told absent _ refl (end - length ds) (omega arith)))

  -- the rating question of region x and dimension y, and where the text of region x stands
  module _ (end from : ℕ) (ds : (descriptors content_advisory).Val) (o : (descriptors content_advisory).Formed (record {}) ds)
      (l : Lies ((descriptors content_advisory).enc ds) s from) (e : end ≡ from + length ((descriptors content_advisory).enc ds)) where
    pub rating_there : (x y : ℕ) → rating_in s x y end from ≡ rated_by x y (descriptors_of content_advisory ds)
    unfolding rating_in rated_by advisory
    rating_there x y =
        list_there (rated_by_advisory s x y) (λ a. by_advisory x y) no_advisory (advisory_rated x y) end from ds o l e
        ∙ placeless (descriptor_bytes content_advisory) (λ d. d.tag) content_advisory (λ d. by_advisory x y d.content) no_advisory from
        (descriptors_of content_advisory ds)

    pub text_there : (x : ℕ) → text_in s x end from ≡ text_place x from (descriptors_of content_advisory ds)
    unfolding text_in text_place advisory
    text_there x = list_there (λ a. region_in s x a (region_text_at s) None) (place_from x) None (advisory_place x) end from ds o l e

  -- ---- descriptor k
  pub descriptor_there : (judged end from : ℕ) (ds : (descriptors judged).Val) → (descriptors judged).Formed (record {}) ds
      → Lies ((descriptors judged).enc ds) s from → end ≡ from + length ((descriptors judged).enc ds)
      → (k : ℕ) → descriptor_in s end k from ≡ descriptor_for judged k from (descriptors_of judged ds)
  unfolding descriptors descriptor content advisory descriptors_of descriptor_bytes content_bytes descriptor_for nth_of
  descriptor_there judged end from [] o l e k = sym (none_past s end from _ refl k (omega (arith, two s from)))
  descriptor_there judged end from (d ∷ ds) o l e zero =
      let f = descriptor judged in
      let j = length-append (f.enc d) (encs f.enc ds) in
      let i = lies_split (f.enc d) (encs f.enc ds) s from l in
      let v = (descriptor_values judged s z from d o.0 i.0).0 in
      sym (descriptor_here s end from _ (sym (descriptor_size_lem judged s z from d o.0 i.0)) 0 refl (omega arith))
      ∙ λ i. Some (record { tag = v.0 i; start = from + 2; size = v.1 i })
  descriptor_there judged end from (d ∷ ds) o l e (suc k) =
      let f = descriptor judged in
      let j = length-append (f.enc d) (encs f.enc ds) in
      let i = lies_split (f.enc d) (encs f.enc ds) s from l in
      sym (descriptor_next s end from _ (sym (descriptor_size_lem judged s z from d o.0 i.0)) (suc k) (λ z. omega arith) (omega arith))
      ∙ rw sub-one (descriptor_there judged end (from + length (f.enc d)) ds o.1 i.1 (omega arith) k)

  -- its content lies where it is said to
  pub content_lies : {A : Type 0} (tell : List ℕ → A) (absent : A) (judged from b : ℕ) (ds : (descriptors judged).Val) → (descriptors judged).Formed (record {}) ds
      → Lies ((descriptors judged).enc ds) s from → (k : ℕ)
      → nth_of (descriptor_bytes judged) (λ a d. tell (bytes_in s (record { start = a + 2; length = length (content_bytes judged d) }))) absent from (descriptors_of judged ds) k
      ≡ nth_of (descriptor_bytes judged) (λ a d. tell (content_bytes judged d)) absent b (descriptors_of judged ds) k
  unfolding descriptors descriptor content advisory descriptors_of descriptor_bytes content_bytes
  content_lies tell absent judged from b ds o l k =
      nth_said ((descriptor judged).Formed (record {})) (descriptor judged).enc s
      (λ a d. tell (bytes_in s (record { start = a + 2; length = length ((content judged).enc d.content) }))) (λ a d. tell ((content judged).enc d.content)) absent
      (λ a b d o l. ap tell (descriptor_values judged s z a d o l).1) from b ds k o l
