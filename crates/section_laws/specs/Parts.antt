-- SCOPE 12.4: what is told by its place stands there: of the encoding of a well-formed record, the bytes at every part that is told
-- are those of the record's field. So no sum of lengths in the rooms' Values.antt has to be believed, but where a part without
-- bytes begins.
use Rattle.std.specs.Prelude.{ℕ, ◌≡◌, List}
use Rattle.part.specs.declared.Part.{Part}
use Rattle.part.specs.Parts.{bytes_in}
use Rattle.refusal.specs.Outcomes.{Outcome, refused, resulted, after, or_none}
use Rattle.kind.specs.declared.Kind.{Kind}
use Rattle.kind.specs.declared.Kind.TheVariants.{Mgt, Tvct, Rrt, Eit, Ett}
use Rattle.format.specs.Listed.{nth_of}
use Rattle.strings.specs.Strings.{text, structure}
use Rattle.descriptor.specs.Descriptors.{DescriptorFields, descriptors, descriptors_of, descriptor_bytes, content_bytes, content_advisory, no_tag}
use Rattle.rating.specs.Values.{text_by}
use Rattle.rating.specs.declared.Descriptor.{Descriptor}
use Rattle.eit.specs.Values.{title_place}
use Rattle.section.specs.Encoding.{Section, encode, WellFormed}
use Rattle.entry.specs.declared.Entry.TheVariants.{Table, Channel, Dimension, Event}
use Rattle.entry.specs.Records.{of_entry, of_value}
use Rattle.section_laws.specs.Told.{mgt_told, defined_told, tvct_told, channel_told, rrt_told, dimension_told, value_told, event_told, descriptor_told, place_told, ett_told}

-- at a part of what is told of a record, its encoding has the bytes of this field; where nothing is told, the field is refused alike
abbrev pub StandsThere : (k : Kind) {A : Type 0} → (Section k → Outcome A) → (A → Part) → (Section k → Outcome (List ℕ)) → Type 0
StandsThere k told part field = (y : Section k) → WellFormed k y → after (told y) (λ x. resulted (bytes_in (encode y) (part x))) ≡ field y

-- where the content of a descriptor stands that is told
abbrev pub content_part : Descriptor → Part
content_part d = record { start = d.start; length = d.size }

-- the bytes of the content of descriptor k (no place is told, so the 0 is not looked at); 13 where there is none
abbrev pub content_told : ℕ → List DescriptorFields → Outcome (List ℕ)
content_told k ds = nth_of (descriptor_bytes content_advisory) (λ a d. resulted (content_bytes content_advisory d)) (refused 13) 0 ds k

pub record PartsHold : Type 0 where
  -- ---- the MGT: its own descriptors, and those of defined table i
  pub mgt_descriptors : StandsThere Mgt mgt_told (λ t. t.descriptors) (λ y. resulted ((descriptors no_tag).enc y.body.descs))
  pub defined_descriptors : (i : ℕ)
      → StandsThere Mgt (defined_told i) (λ d. d.descriptors) (of_entry Table (λ a x. resulted ((descriptors no_tag).enc x.descs)) i)
  -- ---- the TVCT: its own descriptors, and those of channel i
  pub tvct_descriptors : StandsThere Tvct tvct_told (λ t. t.descriptors) (λ y. resulted ((descriptors no_tag).enc y.body.descs))
  pub channel_descriptors : (i : ℕ)
      → StandsThere Tvct (channel_told i) (λ c. c.descriptors) (of_entry Channel (λ a x. resulted ((descriptors no_tag).enc x.descs)) i)
  -- ---- the RRT: the region's name, its own descriptors, the name of dimension i, and the two texts of value j of that
  pub region_name : StandsThere Rrt rrt_told (λ t. t.name) (λ y. resulted (text.enc y.body.name))
  pub rrt_descriptors : StandsThere Rrt rrt_told (λ t. t.descriptors) (λ y. resulted ((descriptors no_tag).enc y.body.descs))
  pub dimension_name : (i : ℕ) → StandsThere Rrt (dimension_told i) (λ d. d.name) (of_entry Dimension (λ d x. resulted (text.enc x.name)) i)
  pub short_text : (i j : ℕ)
      → StandsThere Rrt (value_told i j) (λ v. v.short_text) (of_entry Dimension (of_value (λ a v. resulted (text.enc v.short)) j) i)
  pub long_text : (i j : ℕ)
      → StandsThere Rrt (value_told i j) (λ v. v.long_text) (of_entry Dimension (of_value (λ a v. resulted (text.enc v.long)) j) i)
  -- ---- the EIT: of event i the title (its place is told where it has strings, and in every row), the descriptors, the content of
  -- descriptor k, and the text of a region in the first content advisory
  pub title : (i : ℕ)
      → StandsThere Eit (of_entry Event (λ a e. resulted (title_place a e)) i) (λ p. p) (of_entry Event (λ a e. resulted (text.enc e.title)) i)
  pub event_descriptors : (i : ℕ)
      → StandsThere Eit (event_told i) (λ e. e.descriptors) (of_entry Event (λ a e. resulted ((descriptors content_advisory).enc e.descs)) i)
  pub content : (i k : ℕ)
      → StandsThere Eit (descriptor_told i k) content_part
      (of_entry Event (λ a e. content_told k (descriptors_of content_advisory e.descs)) i)
  pub region_text : (i region : ℕ)
      → StandsThere Eit (place_told i region) (λ p. p)
      (of_entry Event (λ a e. after (or_none (text_by region (descriptors_of content_advisory e.descs))) (λ t. resulted (text.enc t))) i)
  -- ---- the ETT: its text
  pub extended_text : StandsThere Ett ett_told (λ t. t.text) (λ y. resulted (structure.enc y.body.text))
