-- Each statement says something: what keeps it tells the two sample records of its kind apart. So no judge and no reader whose answer
-- is always the same keeps its own statement, be that answer a result or a refusal, nor does one that judges rightly and then
-- answers every accepted section alike, nor a judge that refuses everything. A reader with a question fails at one that the full record answers.
use Prim.Native.Nat.{ℕ, suc, ◌*◌}
use mathlib.Core.Path.{◌≡◌, refl, sym, ap, ◌∙◌}
use mathlib.Core.List.{List, [], ◌∷◌}
use native.Mathlib.Omega.{arith}
use lib.ListN.{length, replicate}
use Rattle.refusal.specs.Outcomes.{Outcome, refused, resulted, after, or_refuse}
use Rattle.refusal.proofs.OutcomeLaws.{same_result, not_both}
use Rattle.logic.specs.Choices.{if_eq}
use Rattle.kind.specs.declared.Kind.{Kind}
use Rattle.kind.specs.declared.Kind.TheVariants.{Mgt, Tvct, Rrt, Eit, Ett}
use Rattle.bytes_at.specs.Fields.{byte_at}
use Rattle.format.specs.Values.{bytes_of}
use Rattle.format.specs.Listed.{nth_of, first_with, sought, all_of}
use Rattle.strings.specs.Strings.{text, StringFields, strings_of, as_text}
use Rattle.descriptor.specs.Descriptors.{descriptors_of}
use Rattle.rating.specs.Values.{descriptor_for, text_place, place_from, region_place, text_by, text_from}
use Rattle.row.specs.Rows.{part_row}
use Rattle.eit.specs.Values.{title_for}
use Rattle.channel.specs.Fields.{name_row, tuning_row, service_row, numbers_row}
use Rattle.text.specs.Segments.{way_of, units_by}
use Rattle.text.specs.Values.{joined, heading_of, units_of, of_string, segments_for}
use Rattle.section.specs.declared.header.Header.{Header}
use Rattle.section.specs.Encoding.{Section, encode, WellFormed, header_of}
use Rattle.section.proofs.EncodingLaws.{encode_bytes}
use Rattle.entry.specs.Records.{kind_of_entry}
use Rattle.entry.specs.declared.Entry.{Entry}
use Rattle.entry.specs.declared.Entry.TheVariants as row
use Rattle.rows.specs.Rows.{row_width, room_for_rows}
use Rattle.section_text.specs.declared.field.Which.{Which}
use Rattle.section_text.specs.declared.field.Which.TheVariants.{Title, Advisory, Extended, RegionName, DimensionName, ShortText, LongText}
use Rattle.section_text.specs.Fields.{kind_for}
use Rattle.titles.specs.Titles as titles
use Rattle.section_laws.specs.Told.{mgt_told, defined_told, tvct_told, channel_told, rrt_told, dimension_told, value_told, eit_told, event_told, rating_told, descriptor_told, place_told, ett_told, strings_told}
use Rattle.section_laws.specs.Accepted.{Judges, JudgesAll, Reads, ReadsText, Library, Keeps}
use Rattle.section_laws.specs.Titled.{sort_told, title_units, title_rows_told, title_rows, titles_told}
use Rattle.section_laws.specs.Rows.{rows_told, count_told, stored_rows, numbered, value_rows_told, values_in, value_count_told, Stores}
use Rattle.section_laws.specs.Samples.{nothing, no_strings, tea_string, tea, advised, bare, full, first_asked}
use Rattle.section_laws.proofs.SampleLaws.{bare_good, full_good, tea_ok}

-- ---- what answers both alike
abbrev pub Useless : (k : Kind) {A : Type 0} → (List ℕ → A) → Type 0
Useless k reader = reader (encode (bare k)) ≡ reader (encode (full k))

-- no such reader tells this
abbrev pub Refuted : (k : Kind) {A : Type 0} → (Section k → Outcome A) → Type 0
Refuted k {A} told = (reader : List ℕ → Outcome A) → Useless k reader → Reads k reader told → ⊥

-- nor one whose answer is always c
pub no_constant : (k : Kind) {A : Type 0} {told : Section k → Outcome A} → Refuted k told → (c : Outcome A) → Reads k (λ s. c) told → ⊥
no_constant k refuted c r = refuted (λ s. c) refl r

-- ---- the judges
-- one that keeps its statement accepts every well-formed record
judged : (k : Kind) (judge : List ℕ → Outcome Header) → Judges k judge → (y : Section k) → WellFormed k y → judge (encode y) ≡ resulted (header_of y)
judged k judge j y o = (j _ (encode_bytes k y o) _).1 (y, (o, (refl, refl)))

-- so none that refuses everything, by whatever numbers
pub no_refusing : (k : Kind) (judge : List ℕ → Outcome Header) → ((s : List ℕ) → (n : ℕ) × (judge s ≡ refused n)) → Judges k judge → ⊥
no_refusing k judge refuses j =
    let r = refuses (encode (full k)) in
    not_both r.0 (header_of (full k)) (sym r.1 ∙ judged k judge j (full k) (full_good k))

module _ (k : Kind) (judge : List ℕ → Outcome Header) (useless : Useless k judge) where
  headers : judge (encode (bare k)) ≡ resulted (header_of (bare k)) → judge (encode (full k)) ≡ resulted (header_of (full k)) → ⊥
  headers a b =
      let e = ap (λ (h : Header). h.extension) (same_result (header_of (bare k)) (header_of (full k)) (sym a ∙ useless ∙ b)) in
      omega arith

  pub no_judge : Judges k judge → ⊥
  no_judge j = headers (judged k judge j (bare k) (bare_good k)) (judged k judge j (full k) (full_good k))

  pub no_judge_all : JudgesAll judge → ⊥
  no_judge_all j =
      headers ((j _ (encode_bytes k (bare k) (bare_good k)) _).1 (k, (bare k, (bare_good k, (refl, refl)))))
      ((j _ (encode_bytes k (full k) (full_good k)) _).1 (k, (full k, (full_good k, (refl, refl)))))

-- ---- the readers: a number that is seen in the answers differs, 0 being seen in a refusal
abbrev seen : {A : Type 0} → (A → ℕ) → Outcome A → ℕ
seen f (refused n) = 0
seen f (resulted a) = suc (f a)

apart : (k : Kind) {A : Type 0} (told : Section k → Outcome A) (f : A → ℕ) → (seen f (told (bare k)) ≡ seen f (told (full k)) → ⊥)
    → Refuted k told
apart k told f differ reader u r = differ (ap (seen f) (sym (r.tells (bare k) (bare_good k)) ∙ u ∙ r.tells (full k) (full_good k)))

pub no_mgt : Refuted Mgt mgt_told
no_mgt = apart Mgt mgt_told (λ t. t.tables_defined) (λ e. omega arith)

pub no_defined : Refuted Mgt (defined_told 0)
unfolding nth_of
no_defined = apart Mgt (defined_told 0) (λ d. 0) (λ e. omega arith)

pub no_tvct : Refuted Tvct tvct_told
no_tvct = apart Tvct tvct_told (λ t. t.count) (λ e. omega arith)

pub no_channel : Refuted Tvct (channel_told 0)
unfolding nth_of
no_channel = apart Tvct (channel_told 0) (λ c. 0) (λ e. omega arith)

pub no_rrt : Refuted Rrt rrt_told
no_rrt = apart Rrt rrt_told (λ t. t.region) (λ e. omega arith)

pub no_dimension : Refuted Rrt (dimension_told 0)
unfolding nth_of bytes_of nothing as_text
no_dimension = apart Rrt (dimension_told 0) (λ d. d.name.length) (λ e. omega arith)

pub no_value : Refuted Rrt (value_told 0 0)
unfolding nth_of bytes_of nothing as_text
no_value = apart Rrt (value_told 0 0) (λ v. v.long_text.length) (λ e. omega arith)

pub no_eit : Refuted Eit eit_told
no_eit = apart Eit eit_told (λ t. t.count) (λ e. omega arith)

pub no_event : Refuted Eit (event_told 0)
unfolding nth_of
no_event = apart Eit (event_told 0) (λ v. 0) (λ e. omega arith)

pub no_rating : Refuted Eit (rating_told 0 1 0)
unfolding nth_of
no_rating = apart Eit (rating_told 0 1 0) (λ v. 0) (λ e. omega arith)

pub no_descriptor : Refuted Eit (descriptor_told 0 0)
unfolding nth_of descriptors_of advised descriptor_for
no_descriptor = apart Eit (descriptor_told 0 0) (λ d. d.tag) (λ e. omega arith)

pub no_place : Refuted Eit (place_told 0 1)
unfolding nth_of descriptors_of advised text_place first_with if_eq place_from region_place
no_place = apart Eit (place_told 0 1) (λ p. 0) (λ e. omega arith)

pub no_ett : Refuted Ett ett_told
no_ett = apart Ett ett_told (λ t. t.etm_id) (λ e. omega arith)

-- ---- the rows, where there is room for two: their number, and what a lent list of zeros holds afterwards
pub no_row_count : (r : Entry) → Refuted (kind_of_entry r) (count_told r (2 * row_width r))
unfolding room_for_rows or_refuse
no_row_count row.Table = apart Mgt _ (λ n. n) (λ e. omega arith)
no_row_count row.Channel = apart Tvct _ (λ n. n) (λ e. omega arith)
no_row_count row.Dimension = apart Rrt _ (λ n. n) (λ e. omega arith)
no_row_count row.Event = apart Eit _ (λ n. n) (λ e. omega arith)

abbrev pub room : Entry → List ℕ
room r = replicate (2 * row_width r) 0

abbrev pub stored_told : (r : Entry) → List ℕ → Section (kind_of_entry r) → List ℕ
stored_told r out y = stored_rows out (rows_told r y) (count_told r (length out) y)

-- the second number of the full record's first row is not 0
row_differs : (r : Entry) → byte_at (stored_told r (room r) (bare _)) 1 ≡ byte_at (stored_told r (room r) (full _)) 1 → ⊥
unfolding stored_rows room_for_rows or_refuse all_of part_row name_row tuning_row service_row numbers_row bytes_of nothing as_text
row_differs row.Table e = omega arith
row_differs row.Channel e = omega arith
row_differs row.Dimension e = omega arith
row_differs row.Event e = omega arith

-- so no writer that never changes the list
pub no_rows : (r : Entry) (writer : List ℕ → List ℕ → List ℕ) → Useless (kind_of_entry r) (writer (room r))
    → Stores (kind_of_entry r) writer (stored_told r) → ⊥
no_rows r writer u w =
    let k = kind_of_entry r in
    let e = sym (w.stores (room r) (bare k) (bare_good k)) ∙ u ∙ w.stores (room r) (full k) (full_good k) in
    row_differs r (ap (λ l. byte_at l 1) e)

-- ---- the same of the rows of values
pub no_value_count : Refuted Rrt (value_count_told 12)
unfolding room_for_rows or_refuse values_in
no_value_count = apart Rrt _ (λ n. n) (λ e. omega arith)

abbrev pub values_stored : List ℕ → Section Rrt → List ℕ
values_stored out y = stored_rows out (value_rows_told y) (value_count_told (length out) y)

-- the length of the first short text
value_differs : byte_at (values_stored (replicate 12 0) (bare Rrt)) 3 ≡ byte_at (values_stored (replicate 12 0) (full Rrt)) 3 → ⊥
unfolding stored_rows room_for_rows or_refuse values_in numbered part_row bytes_of nothing as_text
value_differs e = omega arith

pub no_value_rows : (writer : List ℕ → List ℕ → List ℕ) → Useless Rrt (writer (replicate 12 0)) → Stores Rrt writer values_stored → ⊥
no_value_rows writer u w =
    let e = sym (w.stores (replicate 12 0) (bare Rrt) (bare_good Rrt)) ∙ u ∙ w.stores (replicate 12 0) (full Rrt) (full_good Rrt) in
    value_differs (ap (λ l. byte_at l 3) e)

-- ---- the texts of a section: of each sort the full record has one, of one string, and the bare one none or one of no strings
abbrev pub RefutedIn : {A : Type 0} → (List StringFields → Outcome A) → Type 0
RefutedIn says = (w : Which) → Refuted (kind_for (first_asked w)) (λ y. after (strings_told (first_asked w) y) says)

apart_in : {A : Type 0} (says : List StringFields → Outcome A) (f : A → ℕ) → (0 ≡ seen f (says (tea_string ∷ [])) → ⊥)
    → (seen f (says []) ≡ seen f (says (tea_string ∷ [])) → ⊥) → RefutedIn says
unfolding after nth_of descriptors_of advised text_by text_from sought if_eq strings_of as_text tea nothing no_strings
apart_in says f some differ (Title i) = apart Eit _ f some
apart_in says f some differ (Advisory i region) = apart Eit _ f some
apart_in says f some differ Extended = apart Ett _ f differ
apart_in says f some differ RegionName = apart Rrt _ f differ
apart_in says f some differ (DimensionName i) = apart Rrt _ f differ
apart_in says f some differ (ShortText i j) = apart Rrt _ f differ
apart_in says f some differ (LongText i j) = apart Rrt _ f differ

pub no_count : RefutedIn (λ ss. resulted (length ss))
no_count = apart_in (λ ss. resulted (length ss)) (λ n. n) (λ e. omega arith) (λ e. omega arith)

pub no_heading : RefutedIn (λ ss. heading_of ss 0)
unfolding of_string
no_heading = apart_in (λ ss. heading_of ss 0) (λ h. 0) (λ e. omega arith) (λ e. omega arith)

pub no_units : RefutedIn (λ ss. units_of ss 0)
unfolding of_string segments_for joined way_of units_by if_eq after
no_units = apart_in (λ ss. units_of ss 0) length (λ e. omega arith) (λ e. omega arith)

-- ---- a text alone: nothing, and "Tea"
abbrev pub RefutedText : {A : Type 0} → (List StringFields → Outcome A) → Type 0
RefutedText {A} told =
    (reader : List ℕ → Outcome A) → reader (text.enc nothing) ≡ reader (text.enc (as_text tea)) → ReadsText reader told → ⊥

apart_text : {A : Type 0} (told : List StringFields → Outcome A) (f : A → ℕ) → (seen f (told []) ≡ seen f (told (tea_string ∷ [])) → ⊥)
    → RefutedText told
unfolding strings_of as_text tea nothing
apart_text told f differ reader u r = differ (ap (seen f) (sym (r.tells nothing (record {})) ∙ u ∙ r.tells (as_text tea) tea_ok))

pub no_field_count : RefutedText (λ ss. resulted (length ss))
no_field_count = apart_text (λ ss. resulted (length ss)) (λ n. n) (λ e. omega arith)

pub no_field_heading : RefutedText (λ ss. heading_of ss 0)
unfolding of_string
no_field_heading = apart_text (λ ss. heading_of ss 0) (λ h. 0) (λ e. omega arith)

pub no_field_units : RefutedText (λ ss. units_of ss 0)
unfolding of_string segments_for joined way_of units_by if_eq after
no_field_units = apart_text (λ ss. units_of ss 0) length (λ e. omega arith)

-- ---- all titles, where there is room for a row and the units of "Tea": how many there are, and what lent lists of zeros hold afterwards
pub no_titles : Refuted Eit (titles_told 12 3)
unfolding titles.room_for_titles or_refuse all_of sort_told titles.units_told titles.text_told title_for as_text tea strings_of of_string segments_for joined way_of units_by if_eq after
no_titles = apart Eit _ (λ c. c.events) (λ e. omega arith)

-- no writer that leaves a number of its list as it was in both
no_stores : (writer : List ℕ → List ℕ → List ℕ) (told : List ℕ → Section Eit → List ℕ) (l : List ℕ) (i : ℕ)
    → (byte_at (told l (bare Eit)) i ≡ byte_at (told l (full Eit)) i → ⊥) → Useless Eit (writer l) → Stores Eit writer told → ⊥
no_stores writer told l i differ u w =
    differ (ap (λ k. byte_at k i) (sym (w.stores l (bare Eit) (bare_good Eit)) ∙ u ∙ w.stores l (full Eit) (full_good Eit)))

-- the ninth number of a row, which is the title's sort
pub no_title_rows : (writer : List ℕ → List ℕ → List ℕ) → Useless Eit (writer (replicate 12 0))
    → Stores Eit writer (λ out y. stored_rows out (title_rows y) (titles_told (length out) 3 y)) → ⊥
unfolding stored_rows titles.room_for_titles or_refuse all_of title_rows_told sort_told titles.title_row titles.units_told titles.text_told title_for part_row as_text tea strings_of of_string segments_for joined way_of units_by if_eq after
no_title_rows writer = no_stores writer _ (replicate 12 0) 8 (λ e. omega arith)

-- the first unit
pub no_title_units : (writer : List ℕ → List ℕ → List ℕ) → Useless Eit (writer (replicate 3 0))
    → Stores Eit writer (λ out y. stored_rows out (title_units y) (titles_told 12 (length out) y)) → ⊥
unfolding stored_rows titles.room_for_titles or_refuse all_of sort_told titles.units_told titles.text_told title_for as_text tea strings_of of_string segments_for joined way_of units_by if_eq after
no_title_units writer = no_stores writer _ (replicate 3 0) 0 (λ e. omega arith)

-- ---- a library whose judge never looks at the section
pub no_library : (l : Library) → ((k : Kind) (s t : List ℕ) → l.judge k s ≡ l.judge k t) → Keeps l → ⊥
no_library l same keeps = no_judge Eit (l.judge Eit) (same Eit _ _) (keeps.judge Eit)
