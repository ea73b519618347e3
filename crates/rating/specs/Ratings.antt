-- SCOPE 3.3 and 3.4: the rating question, and what else is asked of a descriptor list. Places are offsets of
-- the whole section s; the list stands from `from` to `end`.
use Rattle.std.specs.Prelude.{ℕ, zero, suc, ◌+◌, ◌*◌, ◌%◌, List, Option, None, Some}
use Rattle.part.specs.declared.Part.{Part}
use Rattle.bytes_at.specs.Fields.{byte_at}
use Rattle.logic.specs.Choices.{if_lt, if_eq}
use Rattle.descriptor.specs.Descriptors.{content_advisory}
use Rattle.rating.specs.declared.Descriptor.{Descriptor}
use Rattle.rating.specs.declared.Rating.{Rating}
use Rattle.rating.specs.declared.Rating.TheVariants.{NoAdvisory, RegionAbsent, DimensionAbsent, Value}
use Rattle.rating.specs.Values.{Rated, no_advisory, region_absent, dimension_absent, value}

-- ---- what the code's answer to a rating question means
abbrev pub rated_of : Rating → Rated
rated_of NoAdvisory = no_advisory
rated_of RegionAbsent = region_absent
rated_of DimensionAbsent = dimension_absent
rated_of (Value v) = value v

-- ---- how many bytes a thing takes
-- a descriptor: tag 8, length 8, that many bytes
unfoldable pub descriptor_size : List ℕ → ℕ → ℕ
descriptor_size s at = 2 + byte_at s (at + 1)

-- the start of a region: region 8, dimension count 8, its dimensions of 16 bits each
unfoldable pub rated_size : List ℕ → ℕ → ℕ
rated_size s at = 2 + 2 * byte_at s (at + 1)

-- a region: that, and its text with an 8-bit length
unfoldable pub region_size : List ℕ → ℕ → ℕ
region_size s at = rated_size s at + 1 + byte_at s (at + rated_size s at)

-- ---- the first match
-- The first match in byte order decides: n things stand one after the other from `at`, each of its size and within `end`. The
-- first of them whose first byte is x is told by its place; where none is, the answer is `absent`.
unfoldable pub first_match : {A : Type 0} → List ℕ → (size : ℕ → ℕ) → (n end at x : ℕ) → (told : ℕ → A) → (absent : A) → A
first_match s size zero end at x told absent = absent
first_match s size (suc n) end at x told absent =
    if_lt end (at + size at) absent
    (if_eq (byte_at s at) x (told at) (first_match s size n end (at + size at) x told absent))

-- the first 0x87 descriptor; `end` bounds their number, since each takes two bytes or more
abbrev pub advisory_in : {A : Type 0} → List ℕ → ℕ → ℕ → (ℕ → A) → A → A
advisory_in s end from = first_match s (descriptor_size s) end end from content_advisory

-- the first such region of the content advisory at a: r 2, region count 6, and the regions
abbrev pub region_in : {A : Type 0} → List ℕ → ℕ → ℕ → (ℕ → A) → A → A
region_in s region a = first_match s (region_size s) (byte_at s (a + 2) % 64) (a + descriptor_size s a) (a + 3) region

-- the first such dimension of the region at p: dimension 8, r 4, value 4
abbrev pub dimension_in : {A : Type 0} → List ℕ → ℕ → ℕ → (ℕ → A) → A → A
dimension_in s dimension p = first_match s (λ q. 2) (byte_at s (p + 1)) (p + region_size s p) (p + 2) dimension

-- ---- the questions
-- what a region at p, and what an advisory at a, answer to a rating question
abbrev pub rated_by_region : List ℕ → ℕ → ℕ → Rated
rated_by_region s dimension p = dimension_in s dimension p (λ q. value (byte_at s (q + 1) % 16)) dimension_absent

abbrev pub rated_by_advisory : List ℕ → ℕ → ℕ → ℕ → Rated
rated_by_advisory s region dimension a = region_in s region a (rated_by_region s dimension) region_absent

-- the answer of a rating question
unfoldable pub rating_in : List ℕ → ℕ → ℕ → ℕ → ℕ → Rated
rating_in s region dimension end from = advisory_in s end from (rated_by_advisory s region dimension) no_advisory

-- the text of the region at p
abbrev pub region_text_at : List ℕ → ℕ → Option Part
region_text_at s p = Some (record { start = p + rated_size s p + 1; length = byte_at s (p + rated_size s p) })

-- the text of the first such region in the first content advisory
unfoldable pub text_in : List ℕ → ℕ → ℕ → ℕ → Option Part
text_in s region end from = advisory_in s end from (λ a. region_in s region a (region_text_at s) None) None

-- the descriptor at a place
abbrev pub descriptor_at : List ℕ → ℕ → Descriptor
descriptor_at s at = record { tag = byte_at s at; start = at + 2; size = byte_at s (at + 1) }

-- descriptor number k, counted from 0; one that does not lie within the list is none
unfoldable pub descriptor_in : List ℕ → ℕ → ℕ → ℕ → Option Descriptor
descriptor_in s end zero at = if_lt end (at + descriptor_size s at) None (Some (descriptor_at s at))
descriptor_in s end (suc k) at = if_lt end (at + descriptor_size s at) None (descriptor_in s end k (at + descriptor_size s at))
