-- SCOPE 12.4: what is written is the encoding of the record given, so it is accepted and reads as given; an accepted section whose
-- reserved bits are ones is rewritten to its old bytes. Each statement is of any writer: this library's keep them (proofs/).
use Rattle.std.specs.Prelude.{ℕ, ◌*◌, ◌≤◌, ◌<◌, ◌≡◌, ◌↔◌, List, map, length}
use Rattle.refusal.specs.Outcomes.{Outcome, resulted}
use Rattle.kind.specs.declared.Kind.{Kind}
use Rattle.kind.specs.declared.Kind.TheVariants.{Eit, Ett}
use Rattle.kind.specs.Kinds.{limits_of, only_of}
use Rattle.format.specs.Repeats.{Bytes}
use Rattle.format.specs.Values.{behind}
use Rattle.format.specs.Listed.{all_of}
use Rattle.part.specs.declared.Part.{Part}
use Rattle.part.specs.Parts.{end_of, bytes_in}
use Rattle.strings.specs.Strings.{structure, text}
use Rattle.descriptor.specs.Descriptors.{descriptors, content_advisory}
use Rattle.eit.specs.Format.{EventOf, EventFields, event_format}
use Rattle.eit.specs.Given.{title_given, list_given, event_given, events_given}
use Rattle.eit.specs.Values.{title_place, descriptors_place, event_for, row_for, OnesEit}
use Rattle.eit.specs.declared.table.Table.{Table as EitTable}
use Rattle.ett.specs.declared.table.Table.{Table as EttTable}
use Rattle.ett.specs.Format.{etm_head}
use Rattle.section.specs.declared.header.Header.{Header}
use Rattle.section.specs.declared.write.Given.{Given}
use Rattle.section.specs.Sections.{section_by}
use Rattle.section.specs.Encoding.{Section, encode, WellFormed, OnesHeader}
use Rattle.section.specs.Writing.{header_given}
use Rattle.entry.specs.declared.Entry.TheVariants.{Event}
use Rattle.entry.specs.Records.{entries_of, begin_of}
use Rattle.reading.specs.Eits as eits
use Rattle.reading.specs.Etts as etts

-- ---- headers
-- what is read of a header that was given, and what is given to write one again that was read
abbrev pub header_read : Kind → Given → Header
header_read k g = record { kind = k; extension = g.extension; version = g.version; current = g.current; number = g.number; last = g.last }

abbrev pub given_of : Header → Given
given_of h = record { extension = h.extension; version = h.version; current = h.current; number = h.number; last = h.last }

-- ---- records
-- s is the encoding of such a record
abbrev pub EncodingOf : {k : Kind} → (Section k → Type 0) → List ℕ → Type 0
EncodingOf {k} Such s = (y : Section k) × (Such y × (s ≡ encode y))

-- the record is well formed, and its reserved bits are ones, but for those in texts and descriptor lists, which may be any
abbrev pub EttWithOnes : Section Ett → Type 0
EttWithOnes y = WellFormed Ett y × OnesHeader y

abbrev pub EitWithOnes : Section Eit → Type 0
EitWithOnes y = WellFormed Eit y × (OnesHeader y × OnesEit y.body)

-- ---- an ETT, given by a header, ETM_id and a text as bytes
abbrev pub EttWriter : Type 0
EttWriter = Given → ℕ → List ℕ → ℕ → Outcome (List ℕ)

-- these give the record
pub record GivesEtt (g : Given) (etm : ℕ) (t : List ℕ) (y : Section Ett) : Type 0 where
  pub good : WellFormed Ett y
  pub header : y.header ≡ header_given g
  pub id : y.body.etm ≡ etm
  pub text : structure.enc y.body.text ≡ t

-- what is written is exactly the encoding of a well-formed record that is given, where it has room
abbrev pub WritesEtt : EttWriter → Type 0
WritesEtt write =
    (g : Given) (etm : ℕ) (t : List ℕ) (room : ℕ) → Bytes t → (s : List ℕ)
    → (write g etm t room ≡ resulted s) ↔ (EncodingOf (GivesEtt g etm t) s × (length s ≤ room))

-- it reads as given: the header, ETM_id, and the text by its bytes
abbrev pub ett_text_place : List ℕ → Part
ett_text_place t = record { start = behind etm_head (limits_of Ett).body; length = length t }

pub record ReadsAsEtt (g : Given) (etm : ℕ) (t s : List ℕ) : Type 0 where
  pub header : section_by (only_of Ett) s ≡ resulted (header_read Ett g)
  pub fields : etts.fields_of s ≡ resulted (record { extension = g.extension; etm_id = etm; text = ett_text_place t })
  pub text : bytes_in s (ett_text_place t) ≡ t

abbrev pub ReadsBackEtt : EttWriter → Type 0
ReadsBackEtt write =
    (g : Given) (etm : ℕ) (t : List ℕ) (room : ℕ) → Bytes t → (s : List ℕ) → write g etm t room ≡ resulted s → ReadsAsEtt g etm t s

-- an accepted section whose reserved bits are ones is written again from what is read of it
abbrev pub RewritesEtt : EttWriter → Type 0
RewritesEtt write =
    (s : List ℕ) (h : Header) (f : EttTable) → section_by (only_of Ett) s ≡ resulted h → etts.fields_of s ≡ resulted f → EncodingOf EttWithOnes s
    → (room : ℕ) → length s ≤ room → write (given_of h) f.etm_id (bytes_in s f.text) room ≡ resulted s

-- ---- an EIT, given by a header, a count, and for each event a row of eight numbers with places in one list of bytes
abbrev pub EitWriter : Type 0
EitWriter = Given → ℕ → List ℕ → List ℕ → ℕ → Outcome (List ℕ)

-- an event with its title and descriptors as bytes
abbrev pub as_bytes : EventFields → EventOf (List ℕ) (List ℕ)
as_bytes e = record { head = e.head; title = text.enc e.title; r = e.r; descs = (descriptors content_advisory).enc e.descs }

-- both places of the row that begins at number a lie within the bytes
abbrev pub Inside : List ℕ → List ℕ → ℕ → Type 0
Inside rows bytes a = (end_of (title_given rows a) ≤ length bytes) × (end_of (list_given rows a) ≤ length bytes)

-- these give the record: each of its events is what its row gives, reserved bits being ones
pub record GivesEit (g : Given) (count : ℕ) (rows bytes : List ℕ) (y : Section Eit) : Type 0 where
  pub good : WellFormed Eit y
  pub header : y.header ≡ header_given g
  pub whole : length rows ≡ 8 * count
  pub inside : (i : ℕ) → i < count → Inside rows bytes (8 * i)
  pub events : map as_bytes y.body.events ≡ events_given rows bytes count 0

-- what is written is exactly the encoding of a well-formed record that is given, where it has room
abbrev pub WritesEit : EitWriter → Type 0
WritesEit write =
    (g : Given) (count : ℕ) (rows bytes : List ℕ) (room : ℕ) → Bytes bytes → (s : List ℕ)
    → (write g count rows bytes room ≡ resulted s) ↔ (EncodingOf (GivesEit g count rows bytes) s × (length s ≤ room))

-- it reads as given: event i is the one of row i, with its title and descriptors by their bytes
pub record ReadsAsRow (rows bytes s : List ℕ) (i : ℕ) : Type 0 where
  pub event : EventFields
  pub at : ℕ
  pub good : event_format.Formed (record {}) event
  pub given : as_bytes event ≡ event_given rows bytes (8 * i)
  pub answer : eits.entry_of s i ≡ resulted (event_for at event)
  pub title : bytes_in s (title_place at event) ≡ bytes_in bytes (title_given rows (8 * i))
  pub list : bytes_in s (descriptors_place at event) ≡ bytes_in bytes (list_given rows (8 * i))

pub record ReadsAsEit (g : Given) (count : ℕ) (rows bytes s : List ℕ) : Type 0 where
  pub header : section_by (only_of Eit) s ≡ resulted (header_read Eit g)
  pub fields : eits.fields_of s ≡ resulted (record { source = g.extension; count = count })
  pub events : (i : ℕ) → i < count → ReadsAsRow rows bytes s i

abbrev pub ReadsBackEit : EitWriter → Type 0
ReadsBackEit write =
    (g : Given) (count : ℕ) (rows bytes : List ℕ) (room : ℕ) → Bytes bytes → (s : List ℕ) → write g count rows bytes room ≡ resulted s
    → ReadsAsEit g count rows bytes s

-- the rows of its events, with places in the section's own bytes: those that are told of it (law `rows_told`)
abbrev pub event_rows : Section Eit → List ℕ
event_rows y = all_of event_format.enc row_for (begin_of Event y) (entries_of Event y)

-- an accepted section whose reserved bits are ones, which is `encode y` of its record y, is written again from what is read of it: the header, how many
-- events there are, and their rows
abbrev pub RewritesEit : EitWriter → Type 0
RewritesEit write =
    (y : Section Eit) (h : Header) (f : EitTable) → section_by (only_of Eit) (encode y) ≡ resulted h → eits.fields_of (encode y) ≡ resulted f → EitWithOnes y
    → (room : ℕ) → length (encode y) ≤ room → write (given_of h) f.count (event_rows y) (encode y) room ≡ resulted (encode y)

-- ---- what the two writers of a library promise
pub record RoundTrips (ett : EttWriter) (eit : EitWriter) : Type 0 where
  pub ett_writes : WritesEtt ett
  pub ett_reads : ReadsBackEtt ett
  pub ett_rewrites : RewritesEtt ett
  pub eit_writes : WritesEit eit
  pub eit_reads : ReadsBackEit eit
  pub eit_rewrites : RewritesEit eit
