-- Once a section is accepted, no reader refuses it by 9: what is told of a record never is.
use Rattle.std.specs.Prelude.{Option, None, Some}
use Prim.Native.Nat.{ℕ, zero, suc, ◌+◌}
use mathlib.Core.Path.{◌≡◌, sym, ap, ◌∙◌}
use mathlib.Core.List.{List, [], ◌∷◌}
use native.Mathlib.Omega.{arith}
use lib.ListN.{length}
use Rattle.refusal.specs.Outcomes.{Outcome, refused, resulted, after, or_none}
use Rattle.refusal.proofs.OutcomeLaws.{not_both}
use Rattle.refusal.proofs.TestLaws.{either_way}
use Rattle.kind.specs.declared.Kind.{Kind}
use Rattle.kind.specs.declared.Kind.TheVariants.{Mgt, Tvct, Rrt, Eit, Ett}
use Rattle.kind.specs.Kinds.{only_of}
use Rattle.format.specs.Listed.{nth_of}
use Rattle.part.specs.declared.Part.{Part}
use Rattle.descriptor.specs.Descriptors.{descriptors_of, content_advisory}
use Rattle.rating.specs.Values.{text_place, descriptor_for}
use Rattle.eit.specs.Values.{descriptors_place}
use Rattle.section.specs.declared.header.Header.{Header}
use Rattle.section.specs.Sections.{section_by}
use Rattle.section.specs.Encoding.{Section}
use Rattle.section.proofs.AcceptedLaws.{exactly}
use Rattle.entry.specs.declared.Entry.{Entry}
use Rattle.entry.specs.declared.Entry.TheVariants.{Table, Channel, Dimension, Event}
use Rattle.entry.specs.Records.{kind_of_entry, record_of, of_entry}
use Rattle.reading.specs.Mgts as mgts
use Rattle.reading.specs.Tvcts as tvcts
use Rattle.reading.specs.Rrts as rrts
use Rattle.reading.specs.Eits as eits
use Rattle.reading.specs.Etts as etts
use Rattle.rows.specs.Rows.{row_width, room_for_rows, rows_of}
use Rattle.rows.specs.Values.{value_rows_of}
use Rattle.section_text.specs.declared.field.Which.{Which}
use Rattle.section_text.specs.Fields.{kind_for, field_of}
use Rattle.section_text.specs.Texts.{text_count, text_heading, text_units}
use Rattle.section_text.proofs.SoundLaws.{field_nine, no_nine, no_nine_heading}
use Rattle.titles.specs.declared.Counts.{Counts}
use Rattle.titles.specs.Titles as titles
use Rattle.section_laws.specs.Accepted.{Reads, NoNine}
use Rattle.section_laws.proofs.TableLaws.{mgt_reads, defined_reads, tvct_reads, channel_reads, rrt_reads, dimension_reads, value_reads, eit_reads_lem, event_reads, ett_reads_lem}
use Rattle.section_laws.proofs.QuestionLaws.{rating_reads, descriptor_reads, place_reads}
use Rattle.section_laws.proofs.RowLaws.{row_count_reads}
use Rattle.section_laws.proofs.ValueRowLaws.{value_count_reads}
use Rattle.section_laws.proofs.TitleLaws.{titles_read}

-- not refused by 9
abbrev Fair : {A : Type 0} → Outcome A → Type 0
Fair o = o ≡ refused 9 → ⊥

result_fair : {A : Type 0} (a : A) → Fair (resulted a)
result_fair a e = not_both 9 a (sym e)

other_fair : {A : Type 0} (n : ℕ) → (n ≡ 9 → ⊥) → Fair {A = A} (refused n)
other_fair n h e = h cc

none_fair : {A : Type 0} → Fair {A = A} (refused 13)
none_fair = other_fair 13 (λ e. omega arith)

or_fair : {A : Type 0} (x : Option A) → Fair (or_none x)
or_fair None = none_fair
or_fair (Some x) = result_fair x

nth_fair : {X A : Type 0} (enc : X → List ℕ) (told : ℕ → X → Outcome A) → ((a : ℕ) (x : X) → Fair (told a x)) → (a : ℕ) (xs : List X) (i : ℕ)
    → Fair (nth_of enc told (refused 13) a xs i)
unfolding nth_of
nth_fair enc told f a [] i = none_fair
nth_fair enc told f a (x ∷ xs) zero = f a x
nth_fair enc told f a (x ∷ xs) (suc i) = nth_fair enc told f (a + length (enc x)) xs i

-- a reader that tells what is fair
module _ (k : Kind) {A : Type 0} (reader : List ℕ → Outcome A) (told : Section k → Outcome A) (r : Reads k reader told) (f : (y : Section k) → Fair (told y)) where
  fair_reader : NoNine k reader
  fair_reader s z h q e =
      let u = (exactly k s z h).0 q in
      f u.0 (sym (r.tells u.0 u.1.0) ∙ (λ i. reader (sym u.1.1.0 i)) ∙ e)

-- what is asked of an entry
fair_entry : (e : Entry) {A : Type 0} (told : ℕ → (record_of e).Val → Outcome A) → ((a : ℕ) (x : (record_of e).Val) → Fair (told a x)) → (i : ℕ)
    → (y : Section (kind_of_entry e)) → Fair (of_entry e told i y)
fair_entry e told f i y = nth_fair _ told f _ _ i

-- ---- the readers
pub mgt_nine : NoNine Mgt mgts.fields_of
mgt_nine = fair_reader Mgt mgts.fields_of _ mgt_reads (λ y. result_fair _)

pub defined_nine : (i : ℕ) → NoNine Mgt (λ s. mgts.entry_of s i)
defined_nine i = fair_reader Mgt _ _ (defined_reads i) (fair_entry Table _ (λ a x. result_fair _) i)

pub tvct_nine : NoNine Tvct tvcts.fields_of
tvct_nine = fair_reader Tvct tvcts.fields_of _ tvct_reads (λ y. result_fair _)

pub channel_nine : (i : ℕ) → NoNine Tvct (λ s. tvcts.entry_of s i)
channel_nine i = fair_reader Tvct _ _ (channel_reads i) (fair_entry Channel _ (λ a x. result_fair _) i)

pub rrt_nine : NoNine Rrt rrts.fields_of
rrt_nine = fair_reader Rrt rrts.fields_of _ rrt_reads (λ y. result_fair _)

pub dimension_nine : (i : ℕ) → NoNine Rrt (λ s. rrts.entry_of s i)
dimension_nine i = fair_reader Rrt _ _ (dimension_reads i) (fair_entry Dimension _ (λ d x. result_fair _) i)

pub value_nine : (i j : ℕ) → NoNine Rrt (λ s. rrts.value_of s i j)
value_nine i j = fair_reader Rrt _ _ (value_reads i j) (fair_entry Dimension _ (λ d x. nth_fair _ _ (λ a v. result_fair _) _ _ j) i)

pub eit_nine : NoNine Eit eits.fields_of
eit_nine = fair_reader Eit eits.fields_of _ eit_reads_lem (λ y. result_fair _)

pub event_nine : (i : ℕ) → NoNine Eit (λ s. eits.entry_of s i)
event_nine i = fair_reader Eit _ _ (event_reads i) (fair_entry Event _ (λ a e. result_fair _) i)

pub rating_nine : (i region dimension : ℕ) → NoNine Eit (λ s. eits.rating_of s i region dimension)
rating_nine i region dimension = fair_reader Eit _ _ (rating_reads i region dimension) (fair_entry Event _ (λ a e. result_fair _) i)

pub descriptor_nine : (i k : ℕ) → NoNine Eit (λ s. eits.descriptor_of s i k)
descriptor_nine i k = fair_reader Eit _ _ (descriptor_reads i k)
    (fair_entry Event _
    (λ a e. or_fair (descriptor_for content_advisory k (descriptors_place a e).start (descriptors_of content_advisory e.descs))) i)

pub place_nine : (i region : ℕ) → NoNine Eit (λ s. eits.advisory_text_of s i region)
place_nine i region = fair_reader Eit _ _ (place_reads i region)
    (fair_entry Event _ (λ a e. or_fair (text_place region (descriptors_place a e).start (descriptors_of content_advisory e.descs))) i)

pub ett_nine : NoNine Ett etts.fields_of
ett_nine = fair_reader Ett etts.fields_of _ ett_reads_lem (λ y. result_fair _)

room_fair : (w n room : ℕ) → Fair (room_for_rows w n room)
unfolding room_for_rows
room_fair w n room = either_way Fair 12 _ (resulted n) (other_fair 12 (λ e. omega arith)) (result_fair n)

pub rows_nine : (r : Entry) (room : ℕ) → NoNine (kind_of_entry r) (λ s. rows_of r s room)
rows_nine r room = fair_reader _ _ _ (row_count_reads r room) (λ y. room_fair (row_width r) _ room)

pub value_rows_nine : (room : ℕ) → NoNine Rrt (λ s. value_rows_of s room)
value_rows_nine room = fair_reader _ _ _ (value_count_reads room) (λ y. room_fair 6 _ room)

-- ---- the texts
units_fair : (s : List ℕ) (w : Which) (h : Header) → section_by (only_of (kind_for w)) s ≡ resulted h → field_of s w ≡ refused 9 → ⊥
units_fair s w h q e = not_both 9 h (sym (field_nine s w e) ∙ q)

pub units_nine : (w : Which) (k : ℕ) → NoNine (kind_for w) (λ s. text_units s w k)
units_nine w k s z h q e = units_fair s w h q (no_nine s w k z e)

pub heading_nine : (w : Which) (k : ℕ) → NoNine (kind_for w) (λ s. text_heading s w k)
heading_nine w k s z h q e = units_fair s w h q (no_nine_heading s w k z e)

count_first : (o : Outcome Part) (k : Part → ℕ) → after o (λ p. resulted (k p)) ≡ refused 9 → o ≡ refused 9
unfolding after
count_first (refused n) k e = let q : n ≡ 9 = cc in ap refused q
count_first (resulted p) k e = not_both 9 (k p) (sym e)

pub count_nine : (w : Which) → NoNine (kind_for w) (λ s. text_count s w)
unfolding text_count
count_nine w s z h q e = units_fair s w h q (count_first (field_of s w) _ e)

-- ---- all titles
titles_fair : (c : Counts) (rows units : ℕ) → Fair (titles.room_for_titles c rows units)
unfolding titles.room_for_titles
titles_fair c rows units =
    either_way Fair 12 _ _ (other_fair 12 (λ e. omega arith)) (either_way Fair 12 _ (resulted c) (other_fair 12 (λ e. omega arith)) (result_fair c))

pub titles_nine : (rows units : ℕ) → NoNine Eit (λ s. titles.titles_of s rows units)
titles_nine rows units = fair_reader Eit _ _ (titles_read rows units) (λ y. titles_fair _ rows units)
