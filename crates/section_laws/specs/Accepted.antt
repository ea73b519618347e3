-- SCOPE 12.4 and 12.6: a section is accepted exactly when it is the encoding of a well-formed record, which is one only, and every
-- reader answers what is told of that record. The statements of a judge are of any judge; those of a reader are of any reader beside
-- this library's judge, `section_by`, which keeps its own. This library's readers keep theirs too, and no judge and no reader whose answer
-- is always the same does, nor a judge that refuses everything (proofs/).
use Rattle.std.specs.Prelude.{ℕ, ◌≡◌, ◌↔◌, List, length}
use Rattle.part.specs.declared.Part.{Part}
use Rattle.refusal.specs.Outcomes.{Outcome, refused, resulted, after}
use Rattle.kind.specs.declared.Kind.{Kind}
use Rattle.kind.specs.declared.Kind.TheVariants.{Mgt, Tvct, Rrt, Eit, Ett}
use Rattle.kind.specs.Kinds.{only_of}
use Rattle.format.specs.Repeats.{Bytes}
use Rattle.strings.specs.Strings.{text, StringFields, strings_of}
use Rattle.rating.specs.Values.{Rated}
use Rattle.rating.specs.declared.Descriptor.{Descriptor}
use Rattle.mgt.specs.declared.table.Table.{Table as MgtTable}
use Rattle.mgt.specs.declared.defined.Defined.{Defined}
use Rattle.channel.specs.declared.channel.Channel.{Channel}
use Rattle.tvct.specs.declared.table.Table.{Table as TvctTable}
use Rattle.rrt.specs.declared.table.Table.{Table as RrtTable}
use Rattle.rrt.specs.declared.dimension.Dimension.{Dimension}
use Rattle.rrt.specs.declared.dimension.ValueTexts.{ValueTexts}
use Rattle.eit.specs.declared.table.Table.{Table as EitTable}
use Rattle.eit.specs.declared.event.Event.{Event}
use Rattle.ett.specs.declared.table.Table.{Table as EttTable}
use Rattle.text.specs.declared.answer.Heading.{Heading}
use Rattle.text.specs.Values.{heading_of, units_of}
use Rattle.section.specs.declared.header.Header.{Header}
use Rattle.section.specs.Sections.{section_by}
use Rattle.section.specs.Encoding.{Section, encode, WellFormed, header_of}
use Rattle.section_text.specs.declared.field.Which.{Which}
use Rattle.section_text.specs.Fields.{kind_for}
use Rattle.section_laws.specs.Told.{mgt_told, defined_told, tvct_told, channel_told, rrt_told, dimension_told, value_told, eit_told, event_told, rating_told, descriptor_told, place_told, ett_told, strings_told}

-- ---- the judge
-- s is the encoding of a well-formed record of the kind, whose header is h
abbrev pub Encodes : Kind → List ℕ → Header → Type 0
Encodes k s h = (y : Section k) × (WellFormed k y × ((s ≡ encode y) × (h ≡ header_of y)))

-- a judge of one kind, and one of all kinds, accept exactly that
abbrev pub Judges : Kind → (List ℕ → Outcome Header) → Type 0
Judges k judge = (s : List ℕ) → Bytes s → (h : Header) → (judge s ≡ resulted h) ↔ Encodes k s h

abbrev pub JudgesAll : (List ℕ → Outcome Header) → Type 0
JudgesAll judge = (s : List ℕ) → Bytes s → (h : Header) → (judge s ≡ resulted h) ↔ ((k : Kind) × Encodes k s h)

-- bytes are the encoding of one well-formed record of a kind only (and table_id tells the kind)
abbrev pub Unique : Type 0
Unique = (k : Kind) (x y : Section k) → WellFormed k x → WellFormed k y → encode x ≡ encode y → x ≡ y

-- ---- a reader of a kind: of the encoding of a record it answers what is told of that, and what the judge refuses it refuses alike
pub record Reads (k : Kind) {A : Type 0} (reader : List ℕ → Outcome A) (tell : Section k → Outcome A) : Type 0 where
  pub tells : (y : Section k) → WellFormed k y → reader (encode y) ≡ tell y
  pub refuses : (s : List ℕ) (n : ℕ) → section_by (only_of k) s ≡ refused n → reader s ≡ refused n

-- 9 is the judge's: of a section that it accepts no reader says it again
abbrev pub NoNine : Kind → {A : Type 0} → (List ℕ → Outcome A) → Type 0
NoNine k reader = (s : List ℕ) → Bytes s → (h : Header) → section_by (only_of k) s ≡ resulted h → reader s ≡ refused 9 → ⊥

-- a reader of a text field alone: 9 where its bytes are those of no text
pub record ReadsText {A : Type 0} (reader : List ℕ → Outcome A) (tell : List StringFields → Outcome A) : Type 0 where
  pub tells : (t : text.Val) → text.Formed (record {}) t → reader (text.enc t) ≡ tell (strings_of t)
  pub refuses : (f : List ℕ) → Bytes f → ((t : text.Val) → text.Formed (record {}) t → f ≡ text.enc t → ⊥) → reader f ≡ refused 9

-- ---- what is asked of sections and of texts: entry i, value j, string or descriptor k; a region and a dimension; the section or the field's bytes
-- come last. `place` is where an advisory's text stands. Ours.antt says which definition is which, and Rows.antt has the calls that answer for all entries at once
pub record Library : Type 0 where
  pub judge : Kind → List ℕ → Outcome Header
  pub judge_all : List ℕ → Outcome Header
  pub mgt : List ℕ → Outcome MgtTable
  pub defined : (i : ℕ) → List ℕ → Outcome Defined
  pub tvct : List ℕ → Outcome TvctTable
  pub channel : (i : ℕ) → List ℕ → Outcome Channel
  pub rrt : List ℕ → Outcome RrtTable
  pub dimension : (i : ℕ) → List ℕ → Outcome Dimension
  pub value : (i j : ℕ) → List ℕ → Outcome ValueTexts
  pub eit : List ℕ → Outcome EitTable
  pub event : (i : ℕ) → List ℕ → Outcome Event
  pub rating : (i region dimension : ℕ) → List ℕ → Outcome Rated
  pub descriptor : (i k : ℕ) → List ℕ → Outcome Descriptor
  pub place : (i region : ℕ) → List ℕ → Outcome Part
  pub ett : List ℕ → Outcome EttTable
  pub count : Which → List ℕ → Outcome ℕ
  pub heading : Which → (k : ℕ) → List ℕ → Outcome Heading
  pub units : Which → (k : ℕ) → List ℕ → Outcome (List ℕ)
  pub field_count : List ℕ → Outcome ℕ
  pub field_heading : (k : ℕ) → List ℕ → Outcome Heading
  pub field_units : (k : ℕ) → List ℕ → Outcome (List ℕ)

-- ---- and what it promises
pub record Keeps (l : Library) : Type 0 where
  pub judge : (k : Kind) → Judges k (l.judge k)
  pub judge_all : JudgesAll l.judge_all
  pub mgt : Reads Mgt l.mgt mgt_told
  pub defined : (i : ℕ) → Reads Mgt (l.defined i) (defined_told i)
  pub tvct : Reads Tvct l.tvct tvct_told
  pub channel : (i : ℕ) → Reads Tvct (l.channel i) (channel_told i)
  pub rrt : Reads Rrt l.rrt rrt_told
  pub dimension : (i : ℕ) → Reads Rrt (l.dimension i) (dimension_told i)
  pub value : (i j : ℕ) → Reads Rrt (l.value i j) (value_told i j)
  pub eit : Reads Eit l.eit eit_told
  pub event : (i : ℕ) → Reads Eit (l.event i) (event_told i)
  pub rating : (i region dimension : ℕ) → Reads Eit (l.rating i region dimension) (rating_told i region dimension)
  pub descriptor : (i k : ℕ) → Reads Eit (l.descriptor i k) (descriptor_told i k)
  pub place : (i region : ℕ) → Reads Eit (l.place i region) (place_told i region)
  pub ett : Reads Ett l.ett ett_told
  pub count : (w : Which) → Reads (kind_for w) (l.count w) (λ y. after (strings_told w y) (λ ss. resulted (length ss)))
  pub heading : (w : Which) (k : ℕ) → Reads (kind_for w) (l.heading w k) (λ y. after (strings_told w y) (λ ss. heading_of ss k))
  pub units : (w : Which) (k : ℕ) → Reads (kind_for w) (l.units w k) (λ y. after (strings_told w y) (λ ss. units_of ss k))
  pub field_count : ReadsText l.field_count (λ ss. resulted (length ss))
  pub field_heading : (k : ℕ) → ReadsText (l.field_heading k) (λ ss. heading_of ss k)
  pub field_units : (k : ℕ) → ReadsText (l.field_units k) (λ ss. units_of ss k)
