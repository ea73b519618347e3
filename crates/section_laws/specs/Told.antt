-- SCOPE 2 to 4: what is told of a section's record to each question. Places are offsets of its encoding.
use Rattle.std.specs.Prelude.{ℕ, List, Option, None, Some}
use Rattle.part.specs.declared.Part.{Part}
use Rattle.refusal.specs.Outcomes.{Outcome, refused, resulted, or_none}
use Rattle.kind.specs.declared.Kind.TheVariants.{Mgt, Tvct, Rrt, Eit, Ett}
use Rattle.kind.specs.Kinds.{limits_of}
use Rattle.strings.specs.Strings.{text, StringFields, strings_of, as_text}
use Rattle.descriptor.specs.Descriptors.{descriptors_of, content_advisory}
use Rattle.rating.specs.Values.{Rated, rated_by, text_by, text_place, descriptor_for}
use Rattle.rating.specs.declared.Descriptor.{Descriptor}
use Rattle.mgt.specs.declared.table.Table.{Table as MgtTable}
use Rattle.mgt.specs.declared.defined.Defined.{Defined}
use Rattle.mgt.specs.Values as mgts
use Rattle.channel.specs.declared.channel.Channel.{Channel as ChannelAnswer}
use Rattle.channel.specs.Values as channels
use Rattle.tvct.specs.declared.table.Table.{Table as TvctTable}
use Rattle.tvct.specs.Values as tvcts
use Rattle.rrt.specs.declared.table.Table.{Table as RrtTable}
use Rattle.rrt.specs.declared.dimension.Dimension.{Dimension as DimensionAnswer}
use Rattle.rrt.specs.declared.dimension.ValueTexts.{ValueTexts}
use Rattle.rrt.specs.Values as rrts
use Rattle.eit.specs.declared.table.Table.{Table as EitTable}
use Rattle.eit.specs.declared.event.Event.{Event as EventAnswer}
use Rattle.eit.specs.Values as eits
use Rattle.ett.specs.declared.table.Table.{Table as EttTable}
use Rattle.ett.specs.Values as etts
use Rattle.section.specs.Encoding.{Section}
use Rattle.entry.specs.declared.Entry.TheVariants.{Table, Channel, Dimension, Event}
use Rattle.entry.specs.Records.{of_entry, of_value}
use Rattle.section_text.specs.declared.field.Which.{Which}
use Rattle.section_text.specs.declared.field.Which.TheVariants.{Title, Advisory, Extended, RegionName, DimensionName, ShortText, LongText}
use Rattle.section_text.specs.Fields.{kind_for}

-- ---- the MGT, and its defined table i
abbrev pub mgt_told : Section Mgt → Outcome MgtTable
mgt_told y = resulted (mgts.fields_for (limits_of Mgt).body y.body)

abbrev pub defined_told : ℕ → Section Mgt → Outcome Defined
defined_told i y = of_entry Table (λ a x. resulted (mgts.defined_for a x)) i y

-- ---- the TVCT, and its channel i
abbrev pub tvct_told : Section Tvct → Outcome TvctTable
tvct_told y = resulted (tvcts.fields_for y.header.extension (limits_of Tvct).body y.body)

abbrev pub channel_told : ℕ → Section Tvct → Outcome ChannelAnswer
channel_told i y = of_entry Channel (λ a x. resulted (channels.channel_for a x)) i y

-- ---- the RRT, its dimension i, and value j of that
abbrev pub rrt_told : Section Rrt → Outcome RrtTable
rrt_told y = resulted (rrts.fields_for y.header.extension (limits_of Rrt).body y.body)

abbrev pub dimension_told : ℕ → Section Rrt → Outcome DimensionAnswer
dimension_told i y = of_entry Dimension (λ d x. resulted (rrts.dimension_for d x)) i y

abbrev pub value_told : ℕ → ℕ → Section Rrt → Outcome ValueTexts
value_told i j y = of_entry Dimension (λ d x. of_value (λ a v. resulted (rrts.texts_for a v)) j d x) i y

-- ---- the EIT, its event i, and what is asked of that
abbrev pub eit_told : Section Eit → Outcome EitTable
eit_told y = resulted (eits.fields_for y.header.extension y.body)

abbrev pub event_told : ℕ → Section Eit → Outcome EventAnswer
event_told i y = of_entry Event (λ a e. resulted (eits.event_for a e)) i y

-- the rating: by the first content advisory, its first such region and the first such dimension in that
abbrev pub rating_told : ℕ → ℕ → ℕ → Section Eit → Outcome Rated
rating_told i region dimension y = of_entry Event (λ a e. resulted (rated_by region dimension (descriptors_of content_advisory e.descs))) i y

-- descriptor k
abbrev pub descriptor_told : ℕ → ℕ → Section Eit → Outcome Descriptor
descriptor_told i k y =
    of_entry Event (λ a e. or_none (descriptor_for content_advisory k (eits.descriptors_place a e).start (descriptors_of content_advisory e.descs))) i y

-- where the text of the first such region in the first content advisory stands
abbrev pub place_told : ℕ → ℕ → Section Eit → Outcome Part
place_told i region y =
    of_entry Event (λ a e. or_none (text_place region (eits.descriptors_place a e).start (descriptors_of content_advisory e.descs))) i y

-- ---- the ETT
abbrev pub ett_told : Section Ett → Outcome EttTable
ett_told y = resulted (etts.fields_for y.header.extension (limits_of Ett).body y.body)

-- ---- the strings of a text
abbrev pub strings_in : Option text.Val → Outcome (List StringFields)
strings_in None = refused 13
strings_in (Some t) = resulted (strings_of t)

abbrev pub strings_told : (w : Which) → Section (kind_for w) → Outcome (List StringFields)
strings_told (Title i) y = of_entry Event (λ a e. resulted (strings_of e.title)) i y
strings_told (Advisory i region) y = of_entry Event (λ a e. strings_in (text_by region (descriptors_of content_advisory e.descs))) i y
strings_told Extended y = resulted (strings_of (as_text y.body.text))
strings_told RegionName y = resulted (strings_of y.body.name)
strings_told (DimensionName i) y = of_entry Dimension (λ d x. resulted (strings_of x.name)) i y
strings_told (ShortText i j) y = of_entry Dimension (λ d x. of_value (λ a v. resulted (strings_of v.short)) j d x) i y
strings_told (LongText i j) y = of_entry Dimension (λ d x. of_value (λ a v. resulted (strings_of v.long)) j d x) i y
