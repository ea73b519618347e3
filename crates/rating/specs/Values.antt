-- SCOPE 3.3 and 3.4: what is answered for the values of a descriptor list. The first content advisory decides, in it the first such
-- region, and in that the first such dimension.
use Rattle.std.specs.Prelude.{ℕ, ◌+◌, ◌*◌, ◌⊎◌, List, length, Option, None, Some}
use Rattle.std.proofs.Common.{inl, inr}
use Rattle.part.specs.declared.Part.{Part}
use Rattle.format.specs.Listed.{nth_of, first_with, sought}
use Rattle.strings.specs.Strings.{text}
use Rattle.descriptor.specs.Descriptors.{RegionFields, AdvisoryFields, DescriptorFields, region_bytes, content_bytes, descriptor_bytes, content_advisory}
use Rattle.rating.specs.declared.Descriptor.{Descriptor}

-- ---- the answers
-- a rating question answers: no advisory, region absent, dimension absent, or a value
pub data Rated : Type 0 where
  no_advisory : Rated
  region_absent : Rated
  dimension_absent : Rated
  value : ℕ → Rated

-- ---- of the values of a list
-- a region answers by its first such dimension
unfoldable pub by_region : ℕ → RegionFields → Rated
by_region dimension g = sought (λ q. q.dimension) dimension (λ q. value q.value) dimension_absent g.ratings

-- an advisory by its first such region; content that is not judged is none, which that of a content advisory never is
unfoldable pub by_advisory : ℕ → ℕ → AdvisoryFields ⊎ List ℕ → Rated
by_advisory region dimension (inl a) = sought (λ g. g.region) region (by_region dimension) region_absent a.regions
by_advisory region dimension (inr bytes) = no_advisory

-- a list by its first content advisory
unfoldable pub rated_by : ℕ → ℕ → List DescriptorFields → Rated
rated_by region dimension ds = sought (λ d. d.tag) content_advisory (λ d. by_advisory region dimension d.content) no_advisory ds

-- the text of the first such region in an advisory, and in the first content advisory of a list: none where there is none
unfoldable pub text_from : ℕ → AdvisoryFields ⊎ List ℕ → Option text.Val
text_from region (inl a) = sought (λ g. g.region) region (λ g. Some g.text) None a.regions
text_from region (inr bytes) = None

unfoldable pub text_by : ℕ → List DescriptorFields → Option text.Val
text_by region ds = sought (λ d. d.tag) content_advisory (λ d. text_from region d.content) None ds

-- where the text of a region at p stands: behind region and count, its ratings of two bytes each, and the text's length
unfoldable pub region_place : ℕ → RegionFields → Option Part
region_place p g = Some (record { start = p + 2 + 2 * length g.ratings + 1; length = length (text.enc g.text) })

-- where that text stands in an advisory whose descriptor is at a, the regions being behind tag, length and their count; and in a list
-- that begins at `from`
unfoldable pub place_from : ℕ → ℕ → AdvisoryFields ⊎ List ℕ → Option Part
place_from region a (inl v) = first_with region_bytes (λ g. g.region) region region_place None (a + 3) v.regions
place_from region a (inr bytes) = None

unfoldable pub text_place : ℕ → ℕ → List DescriptorFields → Option Part
text_place region from ds =
    first_with (descriptor_bytes content_advisory) (λ d. d.tag) content_advisory (λ a d. place_from region a d.content) None from ds

-- descriptor k of a list that begins at `from`: its tag, and where its content stands, behind tag and length
unfoldable pub descriptor_for : ℕ → ℕ → ℕ → List DescriptorFields → Option Descriptor
descriptor_for judgedTag k from ds =
    nth_of (descriptor_bytes judgedTag) (λ a d. Some (record { tag = d.tag; start = a + 2; size = length (content_bytes judgedTag d) })) None from ds k
