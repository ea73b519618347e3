-- What is asked of an event is answered by the descriptors of its record.
use Prim.Native.Nat.{ℕ}
use mathlib.Core.Path.{◌≡◌, refl, ap, ◌∙◌}
use mathlib.Core.List.{List}
use Rattle.refusal.specs.Outcomes.{resulted, or_none}
use Rattle.kind.specs.declared.Kind.TheVariants.{Eit}
use Rattle.part.specs.declared.Part.{Part}
use Rattle.part.specs.Parts.{end_of}
use Rattle.format.specs.Lawful.{Lies}
use Rattle.format.specs.Repeats.{Bytes}
use Rattle.descriptor.specs.Descriptors.{descriptors_of, content_advisory}
use Rattle.rating.specs.Ratings.{rating_in, descriptor_in, text_in}
use Rattle.rating.specs.Values.{rated_by, text_place, descriptor_for}
use Rattle.rating.proofs.ThereLaws as lists
use Rattle.eit.specs.Format.{EventFields, event_format}
use Rattle.eit.specs.Questions.{rating_at, event_descriptor, advisory_text_at}
use Rattle.eit.specs.Values.{descriptors_place}
use Rattle.eit.proofs.ThereLaws.{descriptors_lie, descriptors_there}
use Rattle.section.specs.Encoding.{encode}
use Rattle.section.proofs.EncodingLaws.{encode_bytes}
use Rattle.entry.specs.declared.Entry.TheVariants.{Event}
use Rattle.entry.proofs.RecordLaws.{spot_told}
use Rattle.reading.specs.Eits.{rating_of, descriptor_of, advisory_text_of}
use Rattle.section_laws.specs.Told.{rating_told, descriptor_told, place_told}
use Rattle.section_laws.specs.Accepted.{Reads}
use Rattle.section_laws.proofs.TableLaws.{spot_refused}

-- of an event that lies at a
module _ (s : List ℕ) (z : Bytes s) (a : ℕ) (e : EventFields) (o : event_format.Formed (record {}) e) (l : Lies (event_format.enc e) s a) where
  rating_told_lem : (region dimension : ℕ) → rating_at s a region dimension ≡ rated_by region dimension (descriptors_of content_advisory e.descs)
  unfolding rating_at
  rating_told_lem region dimension =
      let p = descriptors_place a e in
      let d = descriptors_lie s z a e o l in
      ap (λ (p : Part). rating_in s region dimension (end_of p) p.start) (descriptors_there s z a e o l)
      ∙ lists.rating_there s z (end_of p) p.start e.descs d.0 d.1 refl region dimension

  descriptor_told_lem : (k : ℕ) → event_descriptor s a k ≡ descriptor_for content_advisory k (descriptors_place a e).start (descriptors_of content_advisory e.descs)
  unfolding event_descriptor
  descriptor_told_lem k =
      let p = descriptors_place a e in
      let d = descriptors_lie s z a e o l in
      ap (λ (p : Part). descriptor_in s (end_of p) k p.start) (descriptors_there s z a e o l)
      ∙ lists.descriptor_there s z content_advisory (end_of p) p.start e.descs d.0 d.1 refl k

  pub place_told_lem : (region : ℕ) → advisory_text_at s a region ≡ text_place region (descriptors_place a e).start (descriptors_of content_advisory e.descs)
  unfolding advisory_text_at
  place_told_lem region =
      let p = descriptors_place a e in
      let d = descriptors_lie s z a e o l in
      ap (λ (p : Part). text_in s region (end_of p) p.start) (descriptors_there s z a e o l)
      ∙ lists.text_there s z (end_of p) p.start e.descs d.0 d.1 refl region

pub rating_reads : (i region dimension : ℕ) → Reads Eit (λ s. rating_of s i region dimension) (rating_told i region dimension)
unfolding rating_of
rating_reads i region dimension = record {
  tells = λ y o.
      spot_told Event y o _ _ (λ a e g l h. ap resulted (rating_told_lem (encode y) (encode_bytes Eit y o) a e g l region dimension)) i;
  refuses = λ s n q. spot_refused Event _ i s n q;
}

pub descriptor_reads : (i k : ℕ) → Reads Eit (λ s. descriptor_of s i k) (descriptor_told i k)
unfolding descriptor_of
descriptor_reads i k = record {
  tells = λ y o. spot_told Event y o _ _ (λ a e g l h. ap or_none (descriptor_told_lem (encode y) (encode_bytes Eit y o) a e g l k)) i;
  refuses = λ s n q. spot_refused Event _ i s n q;
}

pub place_reads : (i region : ℕ) → Reads Eit (λ s. advisory_text_of s i region) (place_told i region)
unfolding advisory_text_of
place_reads i region = record {
  tells = λ y o. spot_told Event y o _ _ (λ a e g l h. ap or_none (place_told_lem (encode y) (encode_bytes Eit y o) a e g l region)) i;
  refuses = λ s n q. spot_refused Event _ i s n q;
}
