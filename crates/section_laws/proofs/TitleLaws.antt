-- All events and titles at once are those of the record's events.
use Prim.Native.Nat.{ℕ, ◌+◌, ◌-◌, ◌*◌}
use mathlib.Core.Path.{◌≡◌, refl, sym, ap, ◌∙◌}
use mathlib.Core.List.{List, [], ◌∷◌, ◌++◌}
use lib.ListN.{length}
use lib.Seq.{sets}
use Rattle.refusal.specs.Outcomes.{Outcome, refused, resulted}
use Rattle.refusal.proofs.OutcomeLaws.{same_result, after_result, after_refused}
use Rattle.refusal.proofs.TestLaws.{passed_le}
use Rattle.kind.specs.declared.Kind.TheVariants.{Eit}
use Rattle.part.specs.Parts.{bytes_in}
use Rattle.format.specs.Lawful.{Lies}
use Rattle.format.specs.Repeats.{Bytes}
use Rattle.format.specs.Listed.{all_of}
use Rattle.format.proofs.ListedLaws.{Stand, first_lies, rest_stand}
use Rattle.strings.specs.Strings.{text, strings_of}
use Rattle.text.specs.Strings.{string_units, string_replaced}
use Rattle.text.specs.Values.{units_of}
use Rattle.text.specs.Replaced.{replaced_of}
use Rattle.text.proofs.ValueLaws.{units_is, replaced_is}
use Rattle.eit.specs.declared.event.Title.{Title}
use Rattle.eit.specs.declared.event.Title.TheVariants.{None, NoStrings, Text}
use Rattle.eit.specs.Format.{EventFields, event_format}
use Rattle.eit.specs.Fields.{title_at, event_end}
use Rattle.eit.proofs.ThereLaws as eits
use Rattle.section.specs.Encoding.{Section, encode, WellFormed}
use Rattle.section.proofs.EncodingLaws.{encode_bytes, accepts}
use Rattle.entry.specs.declared.Entry.TheVariants.{Event}
use Rattle.entry.specs.Entries.{entry_count}
use Rattle.entry.specs.Records.{entries_of, begin_of}
use Rattle.entry.proofs.RecordLaws.{count_there, entries_stand}
use Rattle.section_text.specs.Fields.{title_field}
use Rattle.titles.specs.Titles.{TitleTold, text_told, told_of, title_told, units_told, title_row, units_from, title_rows_from, first_event, room_for_titles, titles_in, titles_of, with_title_rows, with_units}
use Rattle.titles.specs.declared.Counts.{Counts}
use Rattle.section_laws.specs.Accepted.{Reads}
use Rattle.section_laws.specs.Titled.{sort_told, title_record, title_units, title_rows_told, title_rows, titles_told}
use Rattle.section_laws.specs.Rows.{stored_rows, Stores}
use Rattle.section_laws.proofs.AskedLaws.{title_asked}

-- ---- of an event that lies at a
-- the units of a field's first string, and how many of its segments are replaced
abbrev asked : List ℕ → Outcome (List ℕ)
asked f = string_units f (length f) 0 0

abbrev replaced : List ℕ → ℕ
replaced f = string_replaced f (length f) 0 0

by_sort : (s : List ℕ) (t : Title) (x : text.Val) → asked (bytes_in s (title_field t)) ≡ units_of (strings_of x) 0
    → replaced (bytes_in s (title_field t)) ≡ replaced_of (strings_of x) 0 → told_of s t ≡ sort_told t x
unfolding told_of sort_told
by_sort s None x e r = refl
by_sort s NoStrings x e r = refl
by_sort s (Text p) x e r = λ i. text_told (r i) (e i)

module _ (s : List ℕ) (z : Bytes s) where
  title_there : (a : ℕ) (e : EventFields) → event_format.Formed (record {}) e → Lies (event_format.enc e) s a → title_told s a ≡ title_record a e
  unfolding title_told
  title_there a e o l =
      by_sort s (title_at s a) e.title (title_asked asked (λ ss. units_of ss 0) (λ t p. units_is t p 0) s z a e o l)
      (same_result _ _ (title_asked (λ f. resulted (replaced f)) (λ ss. resulted (replaced_of ss 0)) (λ t p. ap resulted (replaced_is t p 0)) s z a e o l))
      ∙ ap (λ t. sort_told t e.title) (eits.title_there s z a e o l)

  -- and of several, one after the other
  units_there : (end a : ℕ) (es : List EventFields) → Stand event_format s end a es
      → units_from s (length es) a ≡ all_of event_format.enc (λ b e. units_told (title_record b e)) a es
  unfolding units_from all_of
  units_there end a [] g = refl
  units_there end a (e ∷ es) g =
      let l = first_lies event_format s end a e es g in
      let t = ap units_told (title_there a e g.good.0 l) in
      let n = ap (units_from s (length es)) (eits.end_there s z a e g.good.0 l) in
      let u = n ∙ units_there end (a + length (event_format.enc e)) es (rest_stand event_format s end a e es g) in
      λ i. t i ++ u i

  rows_there : (end n a : ℕ) (es : List EventFields) → Stand event_format s end a es → title_rows_from s n (length es) a ≡ title_rows_told n a es
  unfolding title_rows_from title_rows_told
  rows_there end n a [] g = refl
  rows_there end n a (e ∷ es) g =
      let l = first_lies event_format s end a e es g in
      let r = eits.row_there s z a e g.good.0 l in
      let t = title_there a e g.good.0 l in
      let b = a + length (event_format.enc e) in
      let m = n + length (units_told (title_record a e)) in
      let u = ap (λ (x : TitleTold). title_rows_from s (n + length (units_told x)) (length es) (event_end s a)) t
      ∙ ap (title_rows_from s m (length es)) (eits.end_there s z a e g.good.0 l)
      ∙ rows_there end m b es (rest_stand event_format s end a e es g) in
      λ i. (r i ++ title_row n (t i)) ++ u i

-- ---- how many there are, and the two lent lists
module _ (y : Section Eit) (o : WellFormed Eit y) where
  units_told_lem : units_from (encode y) (length (entries_of Event y)) first_event ≡ title_units y
  units_told_lem = units_there (encode y) (encode_bytes Eit y o) (length (encode y) - 4) (begin_of Event y) (entries_of Event y) (entries_stand Event y o)

  rows_told : title_rows_from (encode y) 0 (length (entries_of Event y)) first_event ≡ title_rows y
  rows_told = rows_there (encode y) (encode_bytes Eit y o) (length (encode y) - 4) 0 (begin_of Event y) (entries_of Event y) (entries_stand Event y o)

  counts_told : (rows units : ℕ) → titles_of (encode y) rows units ≡ titles_told rows units y
  unfolding titles_of titles_in entry_count
  counts_told rows units =
      after_result _ _ _ (accepts Eit y o)
      ∙ ap (λ (n : ℕ). room_for_titles (record { events = n; units = length (units_from (encode y) n first_event) }) rows units) (count_there Event y o)
      ∙ ap (λ (us : List ℕ). room_for_titles (record { events = length (entries_of Event y); units = length us }) rows units) units_told_lem

-- what has room is as many as there are
room_is : (c d : Counts) (rows units : ℕ) → room_for_titles c rows units ≡ resulted d → c ≡ d
unfolding room_for_titles
room_is c d rows units e = same_result c d (passed_le 12 c.units units (resulted c) d (passed_le 12 (12 * c.events) rows _ d e).1).1

-- a list that takes what is told of so many events
store_told : (l told : List ℕ) (from : ℕ → List ℕ) (with : Outcome Counts → List ℕ) (x : Outcome Counts)
    → ((n : ℕ) → with (refused n) ≡ l) → ((c : Counts) → with (resulted c) ≡ sets l 0 (from c.events))
    → ((c : Counts) → x ≡ resulted c → from c.events ≡ told) → with x ≡ stored_rows l told x
unfolding stored_rows
store_told l told from with (refused n) r s h = r n
store_told l told from with (resulted c) r s h = s c ∙ ap (sets l 0) (h c refl)

pub titles_read : (rows units : ℕ) → Reads Eit (λ s. titles_of s rows units) (titles_told rows units)
unfolding titles_of
titles_read rows units = record { tells = λ y o. counts_told y o rows units; refuses = λ s n q. after_refused _ _ n q }

pub title_rows_store : (units : ℕ) → Stores Eit (λ l s. with_title_rows s (titles_of s (length l) units) l)
    (λ l y. stored_rows l (title_rows y) (titles_told (length l) units y))
unfolding with_title_rows
title_rows_store units = record {
  stores = λ l y o.
      ap (λ x. with_title_rows (encode y) x l) (counts_told y o (length l) units)
      ∙ store_told l (title_rows y) (λ n. title_rows_from (encode y) 0 n first_event) (λ x. with_title_rows (encode y) x l) (titles_told (length l) units y) (λ n. refl) (λ c. refl)
      (λ c q. ap (λ (d : Counts). title_rows_from (encode y) 0 d.events first_event) (sym (room_is _ c (length l) units q)) ∙ rows_told y o);
  keeps = λ l s n q. ap (λ x. with_title_rows s x l) ((titles_read (length l) units).refuses s n q);
}

pub title_units_store : (rows : ℕ) → Stores Eit (λ l s. with_units s (titles_of s rows (length l)) l)
    (λ l y. stored_rows l (title_units y) (titles_told rows (length l) y))
unfolding with_units
title_units_store rows = record {
  stores = λ l y o.
      ap (λ x. with_units (encode y) x l) (counts_told y o rows (length l))
      ∙ store_told l (title_units y) (λ n. units_from (encode y) n first_event) (λ x. with_units (encode y) x l) (titles_told rows (length l) y) (λ n. refl) (λ c. refl)
      (λ c q. ap (λ (d : Counts). units_from (encode y) d.events first_event) (sym (room_is _ c rows (length l) q)) ∙ units_told_lem y o);
  keeps = λ l s n q. ap (λ x. with_units s x l) ((titles_read rows (length l)).refuses s n q);
}
