-- The parts that are answered of an event and of an ETT lie within the section, so that the bytes handed back for them are all there.
use Rattle.std.specs.Prelude.{Some}
use Prim.Native.Nat.{ℕ, ◌+◌, ◌-◌, ◌≤◌}
use mathlib.Core.Path.{◌≡◌}
use mathlib.Core.List.{List}
use native.Mathlib.Omega.{arith}
use lib.ListN.{length, take, drop, length-drop}
use lib.Seq.{length-take-le}
use Rattle.part.specs.declared.Part.{Part}
use Rattle.bytes_at.specs.Inner.{Stands}
use Rattle.refusal.specs.Outcomes.{resulted}
use Rattle.kind.specs.declared.Kind.TheVariants.{Ett}
use Rattle.kind.specs.Kinds.{limits_of, only_of}
use Rattle.format.specs.Formats.{walks}
use Rattle.part.specs.Parts.{end_of, bytes_in}
use Rattle.rating.specs.declared.Descriptor.{Descriptor}
use Rattle.rating.proofs.DescriptorLaws.{descriptor_within}
use Rattle.rating.proofs.AnswerLaws.{text_within}
use Rattle.eit.specs.Walked.{event}
use Rattle.eit.specs.Fields.{title_part, descriptors_at}
use Rattle.eit.specs.Questions.{event_descriptor, advisory_text_at}
use Rattle.eit.proofs.EventLaws.{title_sound, descriptors_sound}
use Rattle.ett.specs.Fields.{fields_at}
use Rattle.ett.proofs.TextLaws.{body_text}
use Rattle.section.specs.declared.header.Header.{Header}
use Rattle.section.specs.Walked.{body_of}
use Rattle.section.specs.Sections.{section_by}
use Rattle.section.proofs.SectionLaws.{section_sound}
use Rattle.entry.specs.declared.Entry.TheVariants.{Event}
use Rattle.entry.specs.Entries.{format_of, spot_of}
use Rattle.entry.proofs.EntryLaws.{entry_stands}

-- a part within the bytes is handed back whole
all_there : (s : List ℕ) (start n : ℕ) → start + n ≤ length s → length (take n (drop start s)) ≡ n
all_there s start n h = length-take-le n (drop start s) (omega (arith, length-drop start s))

-- of event i: its title and its descriptors, the content of a descriptor, and the text of an advisory
module _ (s : List ℕ) (i a : ℕ) (found : spot_of Event s i ≡ resulted a) where
  stood : Stands (walks event s (length s - 4) a)
  unfolding format_of
  stood = entry_stands Event s i a found

  pub title_whole : length (bytes_in s (title_part s a)) ≡ (title_part s a).length
  title_whole =
      all_there s (title_part s a).start (title_part s a).length (omega (arith, (title_sound s (length s - 4) a stood.0 stood.1).0))

  pub descriptors_whole : length (bytes_in s (descriptors_at s a)) ≡ (descriptors_at s a).length
  descriptors_whole =
      all_there s (descriptors_at s a).start (descriptors_at s a).length
      (omega (arith, (descriptors_sound s (length s - 4) a stood.0 stood.1).0))

  pub content_whole : (k : ℕ) (d : Descriptor) → event_descriptor s a k ≡ Some d → length (take d.size (drop d.start s)) ≡ d.size
  unfolding event_descriptor
  content_whole k d f =
      let l = (descriptors_sound s (length s - 4) a stood.0 stood.1).0 in
      all_there s d.start d.size (omega (arith, l, descriptor_within s (end_of (descriptors_at s a)) k (descriptors_at s a).start d f))

  pub advisory_whole : (region : ℕ) (t : Part) → advisory_text_at s a region ≡ Some t → length (take t.length (drop t.start s)) ≡ t.length
  unfolding advisory_text_at
  advisory_whole region t f =
      let l = (descriptors_sound s (length s - 4) a stood.0 stood.1).0 in
      all_there s t.start t.length (omega (arith, l, text_within s region (end_of (descriptors_at s a)) (descriptors_at s a).start t f))

-- and the text of an ETT
pub text_whole : (s : List ℕ) (h : Header) (extension : ℕ) → section_by (only_of Ett) s ≡ resulted h
    → length (bytes_in s (fields_at s extension (limits_of Ett).body (length s - 4)).text)
    ≡ (fields_at s extension (limits_of Ett).body (length s - 4)).text.length
unfolding fields_at body_of
text_whole s h extension e =
    let w = (section_sound Ett s h e).1 in
    let t = (body_text s (length s - 4) (limits_of Ett).body w.0 w.1).0 in
    all_there s 13 (length s - 4 - 13) (omega arith)
