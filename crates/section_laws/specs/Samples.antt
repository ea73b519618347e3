-- Two well-formed records of each kind: one with as little in it as its kind allows, and one with more entries and texts. What is told of
-- the two differs for every sort of question, so each statement of Accepted.antt says something (proofs/).
use Rattle.std.specs.Prelude.{ℕ, List, [], ◌∷◌, None}
use Rattle.std.proofs.Common.{inl}
use Rattle.kind.specs.declared.Kind.{Kind}
use Rattle.kind.specs.declared.Kind.TheVariants.{Mgt, Tvct, Rrt, Eit, Ett}
use Rattle.strings.specs.Strings.{SegmentFields, StringFields, structure, text, as_text}
use Rattle.descriptor.specs.Descriptors.{RegionFields, descriptors, content_advisory, no_tag}
use Rattle.mgt.specs.Format.{DefinedFields}
use Rattle.channel.specs.Format.{ChannelFields}
use Rattle.rrt.specs.Format.{DimensionFields, RrtFields}
use Rattle.eit.specs.Format.{EventFields}
use Rattle.section.specs.Bodies.{body_format}
use Rattle.section.specs.Encoding.{Section}
use Rattle.section_text.specs.declared.field.Which.{Which}
use Rattle.section_text.specs.declared.field.Which.TheVariants.{Title, Advisory, Extended, RegionName, DimensionName, ShortText, LongText}

-- ---- texts: nothing; a structure of no strings; and "Tea" in English, one segment of plain bytes
unfoldable pub nothing : text.Val
unfolding text
nothing = None

unfoldable pub no_strings : structure.Val
unfolding structure
no_strings = []

abbrev pub tea_segment : SegmentFields
tea_segment = record { compression = 0; mode = 0; bytes = 84 ∷ 101 ∷ 97 ∷ [] }

abbrev pub tea_string : StringFields
tea_string = record { language = 0x656E67; segments = tea_segment ∷ [] }

unfoldable pub tea : structure.Val
unfolding structure
tea = tea_string ∷ []

-- ---- descriptor lists: an empty one; and one content advisory, for region 1 the value 3 of dimension 0 and the text "Tea"
unfoldable pub no_descriptors : (judged : ℕ) → (descriptors judged).Val
unfolding descriptors
no_descriptors judged = []

abbrev pub region_one : RegionFields
region_one = record { region = 1; ratings = record { dimension = 0; r = 15; value = 3 } ∷ []; text = as_text tea }

unfoldable pub advised : (descriptors content_advisory).Val
unfolding descriptors
advised = record { tag = content_advisory; content = inl (record { r = 3; regions = region_one ∷ [] }) } ∷ []

-- ---- an entry of each kind that has some
abbrev pub tea_table : DefinedFields
tea_table = record { head = record { type = 0; r1 = 7; pid = 0x1FFB; r2 = 7; version = 3; bytes = 62 }; r = 15; descs = no_descriptors no_tag }

-- channel 5.1, named "Tea"
abbrev pub tea_channel : ChannelFields
tea_channel = record {
  name = record { n0 = 84; n1 = 101; n2 = 97; n3 = 0; n4 = 0; n5 = 0; n6 = 0 };
  r1 = 15;
  tuning = record { major = 5; minor = 1; modulation = 4; carrier = 0; channel_tsid = 7; program_number = 1 };
  service = record { etm_location = 0; access_controlled = 0; hidden = 0; six_bits = 15; service_type = 2; source_id = 7 };
  r2 = 63;
  descs = no_descriptors no_tag;
}

-- half an hour, entitled "Tea"
abbrev pub tea_event : (descriptors content_advisory).Val → EventFields
tea_event ds = record { head = record { r1 = 3; id = 5; start = 1000; r2 = 3; etm = 0; seconds = 1800 }; title = as_text tea; r = 15; descs = ds }

-- a dimension of one value, and an RRT of that dimension and more, with the text t wherever there is one
abbrev pub dimension_of : text.Val → DimensionFields
dimension_of t = record { name = t; r = 7; scale = 1; values = record { short = t; long = t } ∷ [] }

abbrev pub named : text.Val → List DimensionFields → RrtFields
named t more = record { name = t; dimensions = dimension_of t ∷ more; r = 63; descs = no_descriptors no_tag }

-- ---- the two records of a kind: version 3, current, the only section of its table
abbrev pub section : {k : Kind} → ℕ → (body_format k).Val → Section k
section n b = record { header = record { r1 = 3; extension = n; r2 = 3; version = 3; current = 1; number = 0; last = 0 }; body = b }

abbrev pub bare_body : (k : Kind) → (body_format k).Val
bare_body Mgt = record { tables = []; r = 15; descs = no_descriptors no_tag }
bare_body Tvct = record { channels = []; r = 63; descs = no_descriptors no_tag }
bare_body Rrt = named nothing []
bare_body Eit = record { events = [] }
bare_body Ett = record { etm = 0; text = no_strings }

abbrev pub bare : (k : Kind) → Section k
bare k = section 0 (bare_body k)

abbrev pub full_body : (k : Kind) → (body_format k).Val
full_body Mgt = record { tables = tea_table ∷ []; r = 15; descs = no_descriptors no_tag }
full_body Tvct = record { channels = tea_channel ∷ []; r = 63; descs = no_descriptors no_tag }
full_body Rrt = named (as_text tea) (dimension_of (as_text tea) ∷ [])
full_body Eit = record { events = tea_event advised ∷ [] }
full_body Ett = record { etm = 22; text = tea }

abbrev pub full : (k : Kind) → Section k
full k = section 7 (full_body k)

-- ---- of the texts of a sort, one that the full record has
abbrev pub first_asked : Which → Which
first_asked (Title i) = Title 0
first_asked (Advisory i region) = Advisory 0 1
first_asked Extended = Extended
first_asked RegionName = RegionName
first_asked (DimensionName i) = DimensionName 0
first_asked (ShortText i j) = ShortText 0 0
first_asked (LongText i j) = LongText 0 0
