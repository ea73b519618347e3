-- At every part that is told of a record, its encoding has the bytes of the record's field.
use Rattle.std.specs.Prelude.{None, Some}
use Prim.Native.Nat.{ℕ, ◌+◌}
use mathlib.Core.Path.{◌≡◌, refl, ap, ◌∙◌}
use mathlib.Core.List.{List}
use native.Mathlib.Omega.{arith}
use lib.ListN.{length}
use Rattle.refusal.specs.Outcomes.{Outcome, refused, resulted, after, or_none}
use Rattle.kind.specs.declared.Kind.TheVariants.{Mgt, Tvct, Rrt, Eit, Ett}
use Rattle.kind.specs.Kinds.{limits_of}
use Rattle.part.specs.declared.Part.{Part}
use Rattle.part.specs.Parts.{bytes_in}
use Rattle.format.specs.Lawful.{Lies}
use Rattle.format.specs.Laws.OfBytes.{lies_at}
use Rattle.format.proofs.ListedLaws.{nth_made, nth_said}
use Rattle.strings.specs.Strings.{text, as_text}
use Rattle.descriptor.specs.Descriptors.{descriptors_of, descriptor_bytes, content_bytes, content_advisory}
use Rattle.rating.specs.Values.{text_place, descriptor_for}
use Rattle.rating.proofs.ThereLaws.{content_lies}
use Rattle.mgt.specs.Values.{defined_for}
use Rattle.mgt.proofs.ThereLaws as mgts
use Rattle.channel.specs.Values.{channel_for}
use Rattle.channel.proofs.ThereLaws as channels
use Rattle.tvct.proofs.ThereLaws as tvcts
use Rattle.rrt.specs.declared.dimension.ValueTexts.{ValueTexts}
use Rattle.rrt.specs.Format.{ValueFields, value_format, dimension_format}
use Rattle.rrt.specs.Values.{dimension_for, texts_for, first_value_for}
use Rattle.rrt.proofs.ThereLaws as rrts
use Rattle.eit.specs.Values.{title_place, descriptors_place, event_for}
use Rattle.eit.proofs.ThereLaws as eits
use Rattle.ett.proofs.FieldLaws as etts
use Rattle.section.specs.Encoding.{Section, encode, WellFormed}
use Rattle.section.proofs.EncodingLaws.{encode_bytes, body_lies, body_ends}
use Rattle.entry.specs.declared.Entry.{Entry}
use Rattle.entry.specs.declared.Entry.TheVariants.{Table, Channel, Dimension, Event}
use Rattle.entry.specs.Records.{kind_of_entry, record_of, entries_of, begin_of, of_entry, of_value}
use Rattle.entry.proofs.RecordLaws.{entries_stand}
use Rattle.section_laws.specs.Told.{value_told, descriptor_told}
use Rattle.section_laws.specs.Parts.{StandsThere, content_part, content_told, PartsHold}
use Rattle.section_laws.proofs.AskedLaws.{region_text_lem}

-- ---- of entry i: what stands there for every entry stands there for that
module _ (e : Entry) {A : Type 0} (told : ℕ → (record_of e).Val → Outcome A) (part : A → Part) (says : ℕ → (record_of e).Val → Outcome (List ℕ))
    (there : (y : Section (kind_of_entry e)) → WellFormed (kind_of_entry e) y → (a b : ℕ) (x : (record_of e).Val) → (record_of e).Formed (record {}) x
    → Lies ((record_of e).enc x) (encode y) a → after (told a x) (λ r. resulted (bytes_in (encode y) (part r))) ≡ says b x) where
  of_entry_lem : (i : ℕ) → StandsThere (kind_of_entry e) (of_entry e told i) part (of_entry e says i)
  unfolding after
  of_entry_lem i y o =
      let g = entries_stand e y o in
      nth_made (λ q. after q (λ r. resulted (bytes_in (encode y) (part r)))) (record_of e).enc told (refused 13) (begin_of e y) (entries_of e y) i
      ∙ nth_said ((record_of e).Formed (record {})) (record_of e).enc (encode y) _ says (refused 13) (there y o) (begin_of e y) (begin_of e y) (entries_of e y) i
      g.good g.lies

-- of value j of dimension i
module _ (part : ValueTexts → Part) (of : ValueFields → text.Val)
    (there : (y : Section Rrt) → WellFormed Rrt y → (a : ℕ) (v : ValueFields) → value_format.Formed (record {}) v → Lies (value_format.enc v) (encode y) a
    → bytes_in (encode y) (part (texts_for a v)) ≡ text.enc (of v)) where
  of_value_lem : (i j : ℕ) → StandsThere Rrt (value_told i j) part (of_entry Dimension (of_value (λ a v. resulted (text.enc (of v))) j) i)
  unfolding after
  of_value_lem i j = of_entry_lem Dimension _ part _
      (λ y o d b x p l.
      let s = encode y in
      let z = encode_bytes Rrt y o in
      let g = (rrts.values_there s z d x p l (d + length (dimension_format.enc x)) (omega arith)).1 in
      nth_made (λ q. after q (λ r. resulted (bytes_in s (part r)))) value_format.enc (λ a v. resulted (texts_for a v)) (refused 13) (first_value_for d x) x.values j
      ∙ nth_said (value_format.Formed (record {})) value_format.enc s _ (λ a v. resulted (text.enc (of v))) (refused 13)
      (λ a b v u m. ap resulted (there y o a v u m)) (first_value_for d x) (first_value_for b x) x.values j g.good
      (lies_at _ s _ _ (rrts.first_value_there s z d x p l) g.lies))
      i

-- of descriptor k of event i
of_descriptor : (i k : ℕ) → StandsThere Eit (descriptor_told i k) content_part
    (of_entry Event (λ a e. content_told k (descriptors_of content_advisory e.descs)) i)
unfolding after descriptor_for
of_descriptor i k = of_entry_lem Event (λ a e. or_none (descriptor_for content_advisory k (descriptors_place a e).start (descriptors_of content_advisory e.descs))) content_part _
    (λ y o a b e p l.
    let s = encode y in
    let z = encode_bytes Eit y o in
    let g = eits.descriptors_lie s z a e p l in
    let from = (descriptors_place a e).start in
    nth_made (λ q. after (or_none q) (λ d. resulted (bytes_in s (content_part d)))) (descriptor_bytes content_advisory)
    (λ a d. Some (record { tag = d.tag; start = a + 2; size = length (content_bytes content_advisory d) })) None from (descriptors_of content_advisory e.descs) k
    ∙ content_lies s z resulted (refused 13) content_advisory from 0 e.descs g.0 g.1 k)
    i

-- ---- all of them
pub parts_hold : PartsHold
unfolding after text as_text
parts_hold = record {
  mgt_descriptors = λ y o.
      ap resulted (mgts.own_lie (encode y) (encode_bytes Mgt y o) (limits_of Mgt).body _ y.body o.body (body_lies Mgt y o) (body_ends Mgt y o));
  defined_descriptors = of_entry_lem Table (λ a x. resulted (defined_for a x)) (λ d. d.descriptors) _
      (λ y o a b x p l. ap resulted (mgts.descriptors_lie (encode y) (encode_bytes Mgt y o) a x p l));
  tvct_descriptors = λ y o.
      ap resulted (tvcts.own_lie (encode y) (encode_bytes Tvct y o) (limits_of Tvct).body _ y.body o.body (body_lies Tvct y o) (body_ends Tvct y o) y.header.extension);
  channel_descriptors = of_entry_lem Channel (λ a x. resulted (channel_for a x)) (λ c. c.descriptors) _
      (λ y o a b x p l. ap resulted (channels.descriptors_lie (encode y) (encode_bytes Tvct y o) a x p l));
  region_name = λ y o.
      ap resulted (rrts.name_lies (encode y) (encode_bytes Rrt y o) (limits_of Rrt).body _ y.body o.body (body_lies Rrt y o) (body_ends Rrt y o)).1;
  rrt_descriptors = λ y o.
      ap resulted (rrts.own_lie (encode y) (encode_bytes Rrt y o) (limits_of Rrt).body _ y.body o.body (body_lies Rrt y o) (body_ends Rrt y o) y.header.extension);
  dimension_name = of_entry_lem Dimension (λ d x. resulted (dimension_for d x)) (λ d. d.name) _
      (λ y o d b x p l. ap resulted (rrts.dimension_name_lies (encode y) (encode_bytes Rrt y o) d x p l).1);
  short_text = of_value_lem (λ v. v.short_text) (λ v. v.short) (λ y o a v p l. (rrts.short_lies (encode y) (encode_bytes Rrt y o) a v p l).1);
  long_text = of_value_lem (λ v. v.long_text) (λ v. v.long) (λ y o a v p l. (rrts.long_lies (encode y) (encode_bytes Rrt y o) a v p l).1);
  title = of_entry_lem Event (λ a e. resulted (title_place a e)) (λ p. p) _
      (λ y o a b e p l. ap resulted (eits.title_lies (encode y) (encode_bytes Eit y o) a e p l).1);
  event_descriptors = of_entry_lem Event (λ a e. resulted (event_for a e)) (λ e. e.descriptors) _
      (λ y o a b e p l. ap resulted (eits.descriptors_lie (encode y) (encode_bytes Eit y o) a e p l).1);
  content = of_descriptor;
  region_text = λ i region.
      of_entry_lem Event (λ a e. or_none (text_place region (descriptors_place a e).start (descriptors_of content_advisory e.descs))) (λ p. p) _
      (λ y o a b e p l. region_text_lem resulted (λ t. resulted (text.enc t)) (λ t q. refl) (encode y) (encode_bytes Eit y o) a e p l region) i;
  extended_text = λ y o.
      ap resulted (etts.as_text_lies (encode y) (limits_of Ett).body _ y.body o.body (body_lies Ett y o) (body_ends Ett y o)).1;
}
