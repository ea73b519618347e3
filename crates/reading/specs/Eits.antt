-- SCOPE 2.4, 3.3 and 6.2: the fields of an EIT and of its event i, and what is asked of that event: 1 to 9, then 13.
use Rattle.std.specs.Prelude.{ℕ, Bool, List, length}
use Rattle.part.specs.declared.Part.{Part}
use Rattle.refusal.specs.Outcomes.{Outcome, resulted, after, or_refuse, or_none}
use Rattle.kind.specs.Kinds.{limits_of, only_of}
use Rattle.section.specs.Sections.{section_by}
use Rattle.kind.specs.declared.Kind.TheVariants.{Eit}
use Rattle.format.specs.Formats.{walks_all}
use Rattle.descriptor.specs.Descriptors.{content_advisory, descriptors as descriptorList}
use Rattle.rating.specs.Ratings.{rating_in, descriptor_in, text_in}
use Rattle.rating.specs.Values.{Rated}
use Rattle.rating.specs.declared.Descriptor.{Descriptor}
use Rattle.eit.specs.declared.table.Table.{Table}
use Rattle.eit.specs.declared.event.Event.{Event}
use Rattle.eit.specs.Fields.{fields_at, event_at}
use Rattle.eit.specs.Given.{stands}
use Rattle.eit.specs.Questions.{rating_at, event_descriptor, advisory_text_at}
use Rattle.entry.specs.declared.Entry.TheVariants as entries
use Rattle.entry.specs.Entries.{spot_of}

-- ---- the table
unfoldable pub fields_of : List ℕ → Outcome Table
fields_of s = after (section_by (only_of Eit) s) (λ h. resulted (fields_at s h.extension (limits_of Eit).body))

-- ---- event i
unfoldable pub entry_of : List ℕ → ℕ → Outcome Event
entry_of s i = after (spot_of entries.Event s i) (λ a. resulted (event_at s a))

-- the rating question
unfoldable pub rating_of : List ℕ → ℕ → ℕ → ℕ → Outcome Rated
rating_of s i region dimension = after (spot_of entries.Event s i) (λ a. resulted (rating_at s a region dimension))

-- descriptor k
unfoldable pub descriptor_of : List ℕ → ℕ → ℕ → Outcome Descriptor
descriptor_of s i k = after (spot_of entries.Event s i) (λ a. or_none (event_descriptor s a k))

-- the text of the first such region in the first content advisory
unfoldable pub advisory_text_of : List ℕ → ℕ → ℕ → Outcome Part
advisory_text_of s i region = after (spot_of entries.Event s i) (λ a. or_none (advisory_text_at s a region))

-- ---- the same of an event's descriptor list by itself: 9 where it is not filled exactly, so that a broken list is never "absent"
abbrev pub is_filled : List ℕ → Bool
is_filled l = stands (walks_all (descriptorList content_advisory) l (length l) 0)

unfoldable pub if_filled : {A : Type 0} → List ℕ → Outcome A → Outcome A
if_filled l o = or_refuse 9 (is_filled l) o

abbrev pub list_rating : List ℕ → ℕ → ℕ → Outcome Rated
list_rating l region dimension = if_filled l (resulted (rating_in l region dimension (length l) 0))

abbrev pub list_descriptor : List ℕ → ℕ → Outcome Descriptor
list_descriptor l k = if_filled l (or_none (descriptor_in l (length l) k 0))

abbrev pub list_text : List ℕ → ℕ → Outcome Part
list_text l region = if_filled l (or_none (text_in l region (length l) 0))
