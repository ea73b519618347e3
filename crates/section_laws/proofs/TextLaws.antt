-- A text asked of a section, and a text field alone: what is answered is told by the strings of its text.
use Prim.Native.Nat.{ℕ, ◌+◌, ◌-◌, ◌≤◌}
use mathlib.Core.Path.{◌≡◌, sym, ap, ◌∙◌}
use mathlib.Core.List.{List}
use lib.ListN.{length}
use Rattle.refusal.specs.Outcomes.{Outcome, refused, resulted, after, or_none}
use Rattle.refusal.proofs.OutcomeLaws.{after_result, after_refused, after_after}
use Rattle.kind.specs.declared.Kind.TheVariants.{Rrt, Eit, Ett}
use Rattle.kind.specs.Kinds.{limits_of}
use Rattle.part.specs.declared.Part.{Part}
use Rattle.part.specs.Parts.{bytes_in}
use Rattle.format.specs.Lawful.{Lies}
use Rattle.format.proofs.ListedLaws.{nth_made}
use Rattle.strings.specs.Strings.{StringFields, text, strings_of}
use Rattle.descriptor.specs.Descriptors.{descriptors_of, content_advisory}
use Rattle.rating.specs.Values.{text_by}
use Rattle.rrt.specs.Format.{ValueFields, value_format}
use Rattle.rrt.specs.Fields.{dimension_at, texts_at}
use Rattle.rrt.specs.Values.{first_value_for}
use Rattle.eit.specs.Fields.{title_at}
use Rattle.eit.specs.Questions.{advisory_text_at}
use Rattle.text.specs.Strings.{string_count, string_heading, string_units}
use Rattle.text.specs.Texts.{field_count, field_heading, field_units}
use Rattle.text.specs.Values.{heading_of, units_of}
use Rattle.text.proofs.ValueLaws.{count_is, heading_is, units_is, field_count_lem, field_heading_lem, field_units_lem, field_nine}
use Rattle.section.specs.Encoding.{Section, encode, WellFormed, header_of}
use Rattle.section.proofs.EncodingLaws.{accepts, encode_bytes, body_lies, body_ends}
use Rattle.entry.specs.declared.Entry.{Entry}
use Rattle.entry.specs.declared.Entry.TheVariants.{Event, Dimension}
use Rattle.entry.specs.Entries.{spot_in, value_spot}
use Rattle.entry.specs.Records.{kind_of_entry, record_of, entries_of, begin_of, of_entry, of_value}
use Rattle.entry.proofs.RecordLaws.{spot_in_told, value_told_lem}
use Rattle.section_text.specs.declared.field.Which.{Which}
use Rattle.section_text.specs.declared.field.Which.TheVariants.{Title, Advisory, Extended, RegionName, DimensionName, ShortText, LongText}
use Rattle.section_text.specs.Fields.{kind_for, title_field, title_in, advisory_text_in, dimension_name_in, value_in, short_text_in, long_text_in, field_in, field_of}
use Rattle.section_text.specs.Texts.{text_count, text_heading, text_units}
use Rattle.section_laws.specs.Told.{strings_in, strings_told}
use Rattle.section_laws.specs.Accepted.{Reads, ReadsText}
use Rattle.section_laws.proofs.AskedLaws.{extended_asked, region_asked, dimension_asked, short_asked, long_asked, title_asked, advisory_asked}

-- ---- what is asked of a text's bytes, where that is told by its strings
module _ {A : Type 0} (ask : List ℕ → Outcome A) (tell : List StringFields → Outcome A)
    (same : (t : text.Val) → text.Formed (record {}) t → ask (text.enc t) ≡ tell (strings_of t)) where
  -- of the field at a part of s
  abbrev asked : List ℕ → Part → Outcome A
  asked s p = ask (bytes_in s p)

  -- of entry i of a section
  module _ (e : Entry) (y : Section (kind_of_entry e)) (o : WellFormed (kind_of_entry e) y) (find : ℕ → Outcome Part)
      (told : ℕ → (record_of e).Val → Outcome (List StringFields))
      (there : (a : ℕ) (x : (record_of e).Val) → (record_of e).Formed (record {}) x → Lies ((record_of e).enc x) (encode y) a
      → a + length ((record_of e).enc x) ≤ length (encode y) - 4 → after (find a) (asked (encode y)) ≡ after (told a x) tell) where
    of_entry_lem : (i : ℕ) → after (after (spot_in e (encode y) i) find) (asked (encode y)) ≡ after (of_entry e told i y) tell
    unfolding after
    of_entry_lem i =
        after_after (spot_in e (encode y) i) find (asked (encode y))
        ∙ spot_in_told e y o (λ a. after (find a) (asked (encode y))) (λ a x. after (told a x) tell) there i
        ∙ sym (nth_made (λ x. after x tell) (record_of e).enc told (refused 13) (begin_of e y) (entries_of e y) i)

  -- of value j of dimension i
  module _ (y : Section Rrt) (o : WellFormed Rrt y) (find : ℕ → Part) (of : ValueFields → text.Val)
      (there : (a : ℕ) (v : ValueFields) → value_format.Formed (record {}) v → Lies (value_format.enc v) (encode y) a
      → asked (encode y) (find a) ≡ tell (strings_of (of v))) where
    abbrev told : ℕ → ValueFields → Outcome (List StringFields)
    told a v = resulted (strings_of (of v))

    of_value_lem : (i j : ℕ) → after (after (value_in (encode y) i j) (λ a. resulted (find a))) (asked (encode y))
        ≡ after (of_entry Dimension (of_value told j) i y) tell
    unfolding after value_in
    of_value_lem i j =
        let s = encode y in
        ap (λ x. after x (asked s)) (after_after (spot_in Dimension s i) (λ d. value_spot s d j) (λ a. resulted (find a)))
        ∙ of_entry_lem Dimension y o (λ d. after (value_spot s d j) (λ a. resulted (find a))) (of_value told j)
        (λ d x p l h.
        after_after (value_spot s d j) (λ a. resulted (find a)) (asked s)
        ∙ value_told_lem s (encode_bytes Rrt y o) d x p l h (λ a. asked s (find a)) (λ a v. tell (strings_of (of v))) (λ a v p l h. there a v p l) j
        ∙ sym (nth_made (λ x. after x tell) value_format.enc told (refused 13) (first_value_for d x) x.values j))
        i

  -- of any text of a section
  field_told : (w : Which) (y : Section (kind_for w)) → WellFormed (kind_for w) y
      → after (field_in (encode y) w) (asked (encode y)) ≡ after (strings_told w y) tell
  unfolding after title_in advisory_text_in dimension_name_in short_text_in long_text_in
  field_told (Title i) y o =
      of_entry_lem Event y o (λ a. resulted (title_field (title_at (encode y) a))) (λ a e. resulted (strings_of e.title))
      (λ a e p l h. title_asked ask tell same (encode y) (encode_bytes Eit y o) a e p l) i
  field_told (Advisory i region) y o =
      of_entry_lem Event y o (λ a. or_none (advisory_text_at (encode y) a region))
      (λ a e. strings_in (text_by region (descriptors_of content_advisory e.descs)))
      (λ a e p l h. advisory_asked ask tell same (encode y) (encode_bytes Eit y o) a e p l region) i
  field_told Extended y o =
      extended_asked ask tell same (encode y) (limits_of Ett).body _ y.body o.body (body_lies Ett y o) (body_ends Ett y o)
  field_told RegionName y o =
      region_asked ask tell same (encode y) (encode_bytes Rrt y o) (limits_of Rrt).body _ y.body o.body (body_lies Rrt y o) (body_ends Rrt y o)
  field_told (DimensionName i) y o =
      of_entry_lem Dimension y o (λ d. resulted (dimension_at (encode y) d).name) (λ d x. resulted (strings_of x.name))
      (λ d x p l h. dimension_asked ask tell same (encode y) (encode_bytes Rrt y o) d x p l) i
  field_told (ShortText i j) y o =
      of_value_lem y o (λ a. (texts_at (encode y) a).short_text) (λ v. v.short) (short_asked ask tell same (encode y) (encode_bytes Rrt y o)) i j
  field_told (LongText i j) y o =
      of_value_lem y o (λ a. (texts_at (encode y) a).long_text) (λ v. v.long) (long_asked ask tell same (encode y) (encode_bytes Rrt y o)) i j

  -- of the encoding of a record it is what is told; of what the judge refuses, that refusal
  reads : (w : Which) → Reads (kind_for w) (λ s. after (field_of s w) (asked s)) (λ y. after (strings_told w y) tell)
  unfolding field_of
  reads w = record {
    tells = λ y o.
        ap (λ x. after x (asked (encode y))) (after_result _ (λ h. field_in (encode y) w) (header_of y) (accepts (kind_for w) y o)) ∙ field_told w y o;
    refuses = λ s n e. after_refused _ (asked s) n (after_refused _ (λ h. field_in s w) n e);
  }

-- ---- a text asked of a section: the number of its strings, and the heading and the units of string k
pub count_reads : (w : Which) → Reads (kind_for w) (λ s. text_count s w) (λ y. after (strings_told w y) (λ ss. resulted (length ss)))
unfolding text_count
count_reads = reads (λ f. resulted (string_count f (length f) 0)) (λ ss. resulted (length ss)) (λ t o. ap resulted (count_is t o))

pub heading_reads : (w : Which) (k : ℕ) → Reads (kind_for w) (λ s. text_heading s w k) (λ y. after (strings_told w y) (λ ss. heading_of ss k))
unfolding text_heading
heading_reads w k = reads (λ f. string_heading f (length f) 0 k) (λ ss. heading_of ss k) (λ t o. heading_is t o k) w

pub units_reads : (w : Which) (k : ℕ) → Reads (kind_for w) (λ s. text_units s w k) (λ y. after (strings_told w y) (λ ss. units_of ss k))
unfolding text_units
units_reads w k = reads (λ f. string_units f (length f) 0 k) (λ ss. units_of ss k) (λ t o. units_is t o k) w

-- ---- a text field alone
pub field_count_reads : ReadsText field_count (λ ss. resulted (length ss))
unfolding field_count
field_count_reads = record { tells = field_count_lem; refuses = λ f z n. field_nine f z n _ }

pub field_heading_reads : (k : ℕ) → ReadsText (λ f. field_heading f k) (λ ss. heading_of ss k)
unfolding field_heading
field_heading_reads k = record { tells = λ t o. field_heading_lem t o k; refuses = λ f z n. field_nine f z n _ }

pub field_units_reads : (k : ℕ) → ReadsText (λ f. field_units f k) (λ ss. units_of ss k)
unfolding field_units
field_units_reads k = record { tells = λ t o. field_units_lem t o k; refuses = λ f z n. field_nine f z n _ }
