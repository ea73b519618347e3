-- SCOPE 2.6 to 2.8: a descriptor list is empty, or a first descriptor and the rest; the content advisory, tag 0x87, is judged in an
-- EIT, and all other tags are opaque.
use Rattle.std.specs.Prelude.{ℕ, refl, ◌⊎◌, List, [], ◌∷◌, eqb}
use Rattle.format.specs.Formats.{Format, Filling, seq, exact, any_bytes, choice, list, under}
use Rattle.format.specs.Values.{One, bits, reserved}
use Rattle.format.specs.Named.{named}
use Rattle.format.specs.Told.{counting, few, tagged}
use Rattle.format.specs.Laws.OfFull.{tagged_full}
use Rattle.strings.specs.Strings.{text, sized_text}

-- ---- the content advisory
-- dimension 8, r 4, value 4
pub record RatingFields : Type 0 where
  pub dimension : ℕ
  pub r : ℕ
  pub value : ℕ

unfoldable pub dimension : Format One
dimension =
    under (named (bits 8 ∷ reserved 4 ∷ bits 4 ∷ []) 2 refl) {Y = RatingFields} (λ d. (d.dimension, (d.r, (d.value, record {}))))
    (λ x. record { dimension = x.0; r = x.1.0; value = x.1.1.0 }) (λ x. refl) (λ y. refl)

-- region 8, dimension count 8, and its dimensions
unfoldable pub rated : Format One
rated = counting (bits 8 ∷ []) 1 refl dimension

-- a region with its dimensions, and that region's text with an 8-bit length
pub record RegionFields : Type 0 where
  pub region : ℕ
  pub ratings : List RatingFields
  pub text : text.Val

unfoldable pub region : Format One
unfolding rated dimension sized_text
region =
    under (seq rated sized_text) {Y = RegionFields} (λ g. (((g.region, record {}), g.ratings), (record {}, g.text)))
    (λ x. record { region = x.0.0.0; ratings = x.0.1; text = x.1.1 }) (λ x. refl) (λ y. refl)

-- r 2, region count 6, and the regions
pub record AdvisoryFields : Type 0 where
  pub r : ℕ
  pub regions : List RegionFields

unfoldable pub advisory : Format One
unfolding region
advisory =
    under (few (reserved 2 ∷ []) 6 refl region) {Y = AdvisoryFields} (λ a. ((a.r, record {}), a.regions))
    (λ x. record { r = x.0.0; regions = x.1 }) (λ x. refl) (λ y. refl)

-- ---- a descriptor, and a list of them
-- what stands in a descriptor of a tag: where the tag is the judged one, an advisory that fills it, and else any bytes
unfoldable pub content : ℕ → Filling ℕ
content judgedTag = choice (eqb judgedTag) (exact advisory) any_bytes

-- tag 8, length 8, that many bytes
pub record DescriptorFields : Type 0 where
  pub tag : ℕ
  pub content : AdvisoryFields ⊎ List ℕ

unfoldable pub descriptor : ℕ → Format One
unfolding content advisory
descriptor judgedTag =
    under (tagged (content judgedTag)) {Y = DescriptorFields} (λ d. ((d.tag, record {}), d.content))
    (λ x. record { tag = x.0.0; content = x.1 }) (λ x. refl) (λ y. refl)

-- a descriptor list, which fills its container
unfoldable pub descriptors : ℕ → Filling One
unfolding descriptor content advisory
descriptors judgedTag = list (descriptor judgedTag) (λ d o. tagged_full (content judgedTag) ((d.tag, record {}), d.content) o)

-- the descriptors of a list
unfoldable pub descriptors_of : (judgedTag : ℕ) → (descriptors judgedTag).Val → List DescriptorFields
unfolding descriptors descriptor
descriptors_of judgedTag ds = ds

-- ---- bytes, and the tag that is judged
-- the bytes of a region, of a descriptor's content, and of a descriptor: the `.enc` of their formats, under names that proofs can keep shut
unfoldable pub region_bytes : RegionFields → List ℕ
unfolding region
region_bytes g = region.enc g

unfoldable pub content_bytes : ℕ → DescriptorFields → List ℕ
unfolding content advisory
content_bytes judgedTag d = (content judgedTag).enc d.content

unfoldable pub descriptor_bytes : ℕ → DescriptorFields → List ℕ
unfolding descriptor
descriptor_bytes judgedTag d = (descriptor judgedTag).enc d

-- the tag that is judged in the events of an EIT
abbrev pub content_advisory : ℕ
content_advisory = 0x87

-- in the other tables no tag is judged: 256 is none
abbrev pub no_tag : ℕ
no_tag = 256
