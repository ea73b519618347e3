-- The field of a text that is found in a section is sound, since the section was judged: so what is then read of it is never refused
-- by 9. Nor is finding the field, so that 9 comes only from judging the section.
use Prim.Native.Nat.{ℕ, ◌+◌, ◌-◌, ◌≤◌, ◌<◌}
use mathlib.Core.Path.{◌≡◌, refl, sym, ap, ◌∙◌, subst}
use mathlib.Core.Bool.{Bool, true, false}
use mathlib.Core.Logic.{⊎_elim}
use mathlib.Core.List.{List}
use native.Mathlib.Nat.{eq-zero-or-pos}
use native.Mathlib.Omega.{arith}
use lib.Dec.{eqb, ltb}
use lib.ListN.{length}
use Rattle.logic.specs.Choices.{pick, if_eq}
use Rattle.std.specs.Prelude.{Ok, Option, None, Some}
use Rattle.bytes_at.specs.Fields.{byte_at}
use Rattle.bytes_at.specs.Inner.{Stands}
use Rattle.refusal.specs.Outcomes.{Outcome, refused, resulted, after, or_refuse, or_none}
use Rattle.refusal.proofs.TestLaws.{stops_lt}
use Rattle.refusal.proofs.OutcomeLaws.{not_both, after_is, after_refused, same_result}
use Rattle.kind.specs.declared.Kind.TheVariants.{Rrt, Eit, Ett}
use Rattle.kind.specs.Kinds.{limits_of, only_of}
use Rattle.format.specs.Repeats.{Bytes}
use Rattle.format.specs.Formats.{walks, walks_all}
use Rattle.part.specs.declared.Part.{Part}
use Rattle.part.specs.Parts.{bytes_in}
use Rattle.strings.specs.Strings.{text}
use Rattle.rrt.specs.Fields as rrts
use Rattle.rrt.proofs.WalkLaws.{region_walked, name_walked, value_parts}
use Rattle.eit.specs.declared.event.Title.TheVariants as titles
use Rattle.eit.specs.Titles.{title_of}
use Rattle.eit.specs.Fields.{title_part, descriptors_at, title_at}
use Rattle.eit.specs.Questions.{advisory_text_at}
use Rattle.eit.proofs.EventLaws.{title_sound, descriptors_sound}
use Rattle.ett.specs.Fields as etts
use Rattle.ett.proofs.TextLaws.{body_text}
use Rattle.section.specs.declared.header.Header.{Header}
use Rattle.section.specs.Walked.{body_of}
use Rattle.section.specs.Sections.{section_by}
use Rattle.section.proofs.SectionLaws.{section_sound}
use Rattle.entry.specs.declared.Entry.{Entry}
use Rattle.entry.specs.declared.Entry.TheVariants.{Event, Dimension}
use Rattle.entry.specs.Entries.{format_of, entry_count, spot_in, spot_of, value_spot}
use Rattle.entry.specs.Records.{kind_of_entry}
use Rattle.entry.proofs.EntryLaws.{entry_found, entry_stands}
use Rattle.entry.proofs.ValueLaws.{value_found, value_stands}
use Rattle.text.specs.Strings.{string_count, string_at, string_units, string_heading}
use Rattle.text.proofs.SoundLaws.{Fair, units_fair, heading_there, none_there}
use Rattle.text.proofs.TextLaws.{place_none}
use Rattle.section_text.specs.declared.field.Which.{Which}
use Rattle.section_text.specs.declared.field.Which.TheVariants.{Title, Advisory, Extended, RegionName, DimensionName, ShortText, LongText}
use Rattle.section_text.specs.Fields.{kind_for, title_field, title_in, advisory_text_in, extended_text_in, region_name_in, dimension_name_in, value_in, short_text_in, long_text_in, field_in, field_of}
use Rattle.section_text.specs.Texts.{text_heading, text_units}
use Rattle.section_text.proofs.PlaceLaws.{SoundIn, sized_sound, cut_out}
use Rattle.section_text.proofs.AdvisoryLaws.{SoundText, advisory_sound}

-- a field is sound where it stands
abbrev SoundField : List ℕ → Part → Type 0
SoundField s p = SoundIn s p.start p.length

-- what is asked of a field holds of the one that was answered
answered : (s : List ℕ) (p q : Part) → resulted q ≡ resulted p → SoundField s q → SoundField s p
answered s p q e = subst (SoundField s) (same_result q p e)

-- the checksum stands behind the body
before : (s : List ℕ) → length s - 4 ≤ length s
before s = omega arith

-- ---- an entry that is found in a section that was judged stands
module _ (e : Entry) (s : List ℕ) (h : Header) (judged : section_by (only_of (kind_of_entry e)) s ≡ resulted h) where
  -- asked of the whole section, which the laws of entries speak of, it is found at the same place
  asked : (i : ℕ) → spot_of e s i ≡ spot_in e s i
  unfolding spot_of after
  asked i = rw judged

  spot_stands : (i a : ℕ) → spot_in e s i ≡ resulted a → Stands (walks (format_of e) s (length s - 4) a)
  spot_stands i a q = entry_stands e s i a (asked i ∙ q)

-- ---- EIT
-- the empty field is sound
empty_sound : (s : List ℕ) → SoundIn s 0 0
unfolding text
empty_sound s = record { there = omega arith; sound = refl }

title_by : (s : List ℕ) (start n : ℕ) → SoundIn s start n → SoundField s (title_field (title_of s start n))
unfolding title_of if_eq
title_by s start n h = by (eqb n 0) (eqb n 1) (eqb (byte_at s start) 0)
  where
    by : (t u v : Bool) → SoundField s (title_field (pick t titles.None (pick u
        (pick v titles.NoStrings (titles.Text (record { start = start; length = n }))) (titles.Text (record { start = start; length = n })))))
    by true u v = empty_sound s
    by false true true = empty_sound s
    by false true false = h
    by false false v = h

place_by : (s : List ℕ) (o : Option Part) (p : Part) → or_none o ≡ resulted p → SoundText s o → SoundField s p
place_by s None p e g = not_both 13 p e
place_by s (Some t) p e g = answered s p _ e g

module _ (s : List ℕ) (h : Header) (judged : section_by (only_of Eit) s ≡ resulted h) (i : ℕ) (p : Part) where
  of_title : title_in s i ≡ resulted p → SoundField s p
  unfolding title_in title_at format_of
  of_title e =
      let f = after_is (spot_in Event s i) _ p e in
      let b = spot_stands Event s h judged i f.0 f.1.0 in
      let t = title_sound s (length s - 4) f.0 b.0 b.1 in
      answered s p _ f.1.1
      (title_by s (title_part s f.0).start (title_part s f.0).length (record { there = omega (arith, t.0); sound = t.1 }))

  of_advisory : (region : ℕ) → advisory_text_in s i region ≡ resulted p → SoundField s p
  unfolding advisory_text_in advisory_text_at format_of
  of_advisory region e =
      let f = after_is (spot_in Event s i) _ p e in
      let b = spot_stands Event s h judged i f.0 f.1.0 in
      let l = descriptors_sound s (length s - 4) f.0 b.0 b.1 in
      place_by s (advisory_text_at s f.0 region) p f.1.1
      (advisory_sound s _ region (omega (arith, l.0)) (descriptors_at s f.0).start l.1)

-- ---- ETT
of_extended : (s : List ℕ) (h : Header) → section_by (only_of Ett) s ≡ resulted h → SoundField s (extended_text_in s)
unfolding body_of etts.fields_at
of_extended s h judged =
    let w = (section_sound Ett s h judged).1 in
    let t = body_text s (length s - 4) (limits_of Ett).body w.0 w.1 in
    let e : length s - 4 ≡ (extended_text_in s).start + (extended_text_in s).length = omega (arith, t.0) in
    record { there = omega (arith, t.0); sound = subst (λ x. walks_all text s x (extended_text_in s).start ≡ Ok x) e t.1 }

-- ---- RRT
module _ (s : List ℕ) (h : Header) (judged : section_by (only_of Rrt) s ≡ resulted h) where
  of_region : SoundField s (region_name_in s)
  unfolding body_of
  of_region =
      let w = (section_sound Rrt s h judged).1 in
      sized_sound s (length s - 4) _ _ (before s) (region_walked s (length s - 4) (limits_of Rrt).body w.0 w.1)

  of_dimension : (i : ℕ) (p : Part) → dimension_name_in s i ≡ resulted p → SoundField s p
  unfolding dimension_name_in rrts.dimension_at format_of
  of_dimension i p e =
      let f = after_is (spot_in Dimension s i) _ p e in
      let b = spot_stands Dimension s h judged i f.0 f.1.0 in
      answered s p _ f.1.1 (sized_sound s (length s - 4) _ _ (before s) (name_walked s (length s - 4) f.0 b.0 b.1))

  -- the texts of a value that is found
  value_texts : (i j a : ℕ) → value_in s i j ≡ resulted a → SoundField s (rrts.texts_at s a).short_text × SoundField s (rrts.texts_at s a).long_text
  unfolding value_in rrts.texts_at format_of
  value_texts i j a e =
      let f = after_is (spot_in Dimension s i) _ a e in
      let b = spot_stands Dimension s h judged i f.0 f.1.0 in
      let v = value_stands s f.0 b.0 b.1 j a f.1.1 in
      let t = value_parts s (length s - 4) a v.0 v.1 in
      (sized_sound s (length s - 4) _ _ (before s) t.0, sized_sound s (length s - 4) _ _ (before s) t.1)

  of_short : (i j : ℕ) (p : Part) → short_text_in s i j ≡ resulted p → SoundField s p
  unfolding short_text_in
  of_short i j p e = let f = after_is (value_in s i j) _ p e in answered s p _ f.1.1 (value_texts i j f.0 f.1.0).0

  of_long : (i j : ℕ) (p : Part) → long_text_in s i j ≡ resulted p → SoundField s p
  unfolding long_text_in
  of_long i j p e = let f = after_is (value_in s i j) _ p e in answered s p _ f.1.1 (value_texts i j f.0 f.1.0).1

-- ---- every text
-- in a section that was judged
pub placed_sound : (s : List ℕ) (w : Which) (h : Header) (p : Part) → section_by (only_of (kind_for w)) s ≡ resulted h → field_in s w ≡ resulted p
    → SoundIn s p.start p.length
placed_sound s (Title i) h p j e = of_title s h j i p e
placed_sound s (Advisory i region) h p j e = of_advisory s h j i p region e
placed_sound s Extended h p j e = answered s p _ e (of_extended s h j)
placed_sound s RegionName h p j e = answered s p _ e (of_region s h j)
placed_sound s (DimensionName i) h p j e = of_dimension s h j i p e
placed_sound s (ShortText i k) h p j e = of_short s h j i k p e
placed_sound s (LongText i k) h p j e = of_long s h j i k p e

pub field_sound : (s : List ℕ) (w : Which) (p : Part) → field_of s w ≡ resulted p → SoundIn s p.start p.length
unfolding field_of
field_sound s w p e = let f = after_is (section_by (only_of (kind_for w)) s) (λ h. field_in s w) p e in placed_sound s w f.0 p f.1.0 f.1.1

-- ---- where 9 comes from
nine_not : {A : Type 0} (o : Outcome A) (n : ℕ) → o ≡ refused n → (n ≡ 9 → ⊥) → o ≡ refused 9 → ⊥
nine_not o n e h f = h cc

result_not : {A : Type 0} (o : Outcome A) (a : A) → o ≡ resulted a → o ≡ refused 9 → ⊥
result_not o a e f = not_both 9 a (sym f ∙ e)

-- what comes after a call is refused by 9: where the rest is not, the call is
nine_first : {A B : Type 0} (o : Outcome A) (k : A → Outcome B) → ((a : A) → o ≡ resulted a → k a ≡ refused 9 → ⊥)
    → after o k ≡ refused 9 → o ≡ refused 9
unfolding after
nine_first (refused n) k h e = let q : n ≡ 9 = cc in ap refused q
nine_first (resulted a) k h e = absurd (h a refl e)

-- one of n that is there is found, and another is 13
counted_not : {A : Type 0} (i n : ℕ) (o : Outcome A) → (i < n → (a : A) × (or_refuse 13 (ltb i n) o ≡ resulted a))
    → or_refuse 13 (ltb i n) o ≡ refused 9 → ⊥
counted_not i n o found = ⊎_elim
    (λ h. nine_not _ 13 (sym (stops_lt 13 i n o (omega arith) refl)) (λ e. omega arith))
    (λ h. let r = found (omega arith) in result_not _ r.0 r.1)
    (eq-zero-or-pos (n - i))

spot_not : (e : Entry) (s : List ℕ) (h : Header) → section_by (only_of (kind_of_entry e)) s ≡ resulted h → (i : ℕ) → spot_in e s i ≡ refused 9 → ⊥
unfolding spot_in
spot_not e s h j i = counted_not i (entry_count e s) _ (λ l. let r = entry_found e s h j i l in (r.0, sym (asked e s h j i) ∙ r.1))

value_not : (s : List ℕ) (h : Header) → section_by (only_of Rrt) s ≡ resulted h → (i j : ℕ) → value_in s i j ≡ refused 9 → ⊥
unfolding value_in value_spot format_of
value_not s h judged i j e =
    spot_not Dimension s h judged i
    (nine_first (spot_in Dimension s i) _
    (λ d q.
    let b = spot_stands Dimension s h judged i d q in
    counted_not j (rrts.values_at s d) _ (value_found s d b.0 b.1 j))
    e)

place_not : (o : Option Part) → or_none o ≡ refused 9 → ⊥
place_not None = nine_not _ 13 refl (λ e. omega arith)
place_not (Some t) = result_not _ _ refl

-- in a section that was judged the field is found, or there is no such text
pub field_found : (s : List ℕ) (w : Which) (h : Header) → section_by (only_of (kind_for w)) s ≡ resulted h → field_in s w ≡ refused 9 → ⊥
unfolding title_in advisory_text_in dimension_name_in short_text_in long_text_in
field_found s (Title i) h j e = spot_not Event s h j i (nine_first (spot_in Event s i) _ (λ a q. result_not _ _ refl) e)
field_found s (Advisory i region) h j e = spot_not Event s h j i (nine_first (spot_in Event s i) _ (λ a q. place_not (advisory_text_at s a region)) e)
field_found s Extended h j e = result_not _ _ refl e
field_found s RegionName h j e = result_not _ _ refl e
field_found s (DimensionName i) h j e = spot_not Dimension s h j i (nine_first (spot_in Dimension s i) _ (λ a q. result_not _ _ refl) e)
field_found s (ShortText i k) h j e = value_not s h j i k (nine_first (value_in s i k) _ (λ a q. result_not _ _ refl) e)
field_found s (LongText i k) h j e = value_not s h j i k (nine_first (value_in s i k) _ (λ a q. result_not _ _ refl) e)

-- so finding a field is refused by 9 only where the section is
pub field_nine : (s : List ℕ) (w : Which) → field_of s w ≡ refused 9 → section_by (only_of (kind_for w)) s ≡ refused 9
unfolding field_of
field_nine s w = nine_first (section_by (only_of (kind_for w)) s) _ (λ h j. field_found s w h j)

-- a string of a sound field is never refused by 9, and neither is its heading
fair_not : (o : Outcome (List ℕ)) → Fair o → o ≡ refused 9 → ⊥
fair_not (refused n) f = nine_not (refused n) n refl (λ h. ⊎_elim (λ g. omega arith) (λ g. omega arith) f)
fair_not (resulted us) f = result_not _ us refl

no_heading : (l : List ℕ) (end at k : ℕ) → string_count l end at ≤ k → string_heading l end at k ≡ refused 13
unfolding string_heading
no_heading l end at k h = after_refused (string_at l end at k) _ 13 (sym (place_none l end at k h))

module _ (l : List ℕ) (k : ℕ) (sound : walks_all text l (length l) 0 ≡ Ok (length l)) where
  units_not : string_units l (length l) 0 k ≡ refused 9 → ⊥
  units_not = ⊎_elim
      (λ h. nine_not _ 13 (none_there l (length l) 0 k (omega arith)) (λ e. omega arith))
      (λ h. fair_not _ (units_fair l (length l) 0 (length l) sound k (omega arith)))
      (eq-zero-or-pos (string_count l (length l) 0 - k))

  heading_not : string_heading l (length l) 0 k ≡ refused 9 → ⊥
  heading_not = ⊎_elim
      (λ h. nine_not _ 13 (no_heading l (length l) 0 k (omega arith)) (λ e. omega arith))
      (λ h. result_not _ _ (heading_there l (length l) 0 (length l) sound k (omega arith)).1)
      (eq-zero-or-pos (string_count l (length l) 0 - k))

-- so what is read of a field that is there is refused by 9 only where finding the field is
module _ (s : List ℕ) (w : Which) (k : ℕ) (z : Bytes s) where
  cut_sound : (p : Part) → field_of s w ≡ resulted p → walks_all text (bytes_in s p) (length (bytes_in s p)) 0 ≡ Ok (length (bytes_in s p))
  cut_sound p e = cut_out s p z (field_sound s w p e)

  pub no_nine : text_units s w k ≡ refused 9 → field_of s w ≡ refused 9
  unfolding text_units
  no_nine = nine_first (field_of s w) _ (λ p e. units_not (bytes_in s p) k (cut_sound p e))

  pub no_nine_heading : text_heading s w k ≡ refused 9 → field_of s w ≡ refused 9
  unfolding text_heading
  no_nine_heading = nine_first (field_of s w) _ (λ p e. heading_not (bytes_in s p) k (cut_sound p e))
