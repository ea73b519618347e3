-- SCOPE 3.3 and 3.4: what is asked of the event that begins at a, and the first event with an id.
use Rattle.std.specs.Prelude.{ℕ, zero, suc, List, Option, None, Some}
use Rattle.part.specs.declared.Part.{Part}
use Rattle.logic.specs.Choices.{if_eq}
use Rattle.part.specs.Parts.{end_of}
use Rattle.rating.specs.Ratings.{rating_in, descriptor_in, text_in}
use Rattle.rating.specs.declared.Descriptor.{Descriptor}
use Rattle.rating.specs.Values.{Rated}
use Rattle.eit.specs.Fields.{head_at, descriptors_at, event_end}

-- the rating question
unfoldable pub rating_at : List ℕ → ℕ → ℕ → ℕ → Rated
rating_at s a region dimension = rating_in s region dimension (end_of (descriptors_at s a)) (descriptors_at s a).start

-- descriptor k
unfoldable pub event_descriptor : List ℕ → ℕ → ℕ → Option Descriptor
event_descriptor s a k = descriptor_in s (end_of (descriptors_at s a)) k (descriptors_at s a).start

-- the text of the first such region in the first content advisory
unfoldable pub advisory_text_at : List ℕ → ℕ → ℕ → Option Part
advisory_text_at s a region = text_in s region (end_of (descriptors_at s a)) (descriptors_at s a).start

-- where the first of n events, the first of which begins at a, has this event_id
unfoldable pub find_from : List ℕ → ℕ → ℕ → ℕ → Option ℕ
find_from s id zero a = None
find_from s id (suc n) a = if_eq (head_at s a).id id (Some a) (find_from s id n (event_end s a))
