-- Where the texts of a section that was judged stand: the entries among which they stand begin within its bytes, and a text that is
-- sound where it stands is sound when it is cut out.
use Prim.Native.Nat.{ℕ, ◌+◌, ◌≤◌}
use mathlib.Core.Path.{◌≡◌, sym, ap, ◌∙◌, subst}
use mathlib.Core.List.{List}
use native.Mathlib.Omega.{arith}
use lib.ListN.{length, take, drop}
use lib.Seq.{take-length}
use Rattle.std.specs.Prelude.{Ok}
use Rattle.refusal.specs.Outcomes.{resulted}
use Rattle.kind.specs.Kinds.{only_of}
use Rattle.format.proofs.KeptLaws.{laws}
use Rattle.format.specs.Repeats.{Bytes}
use Rattle.format.specs.Formats.{walks, walks_all}
use Rattle.part.specs.declared.Part.{Part}
use Rattle.part.specs.Parts.{bytes_in}
use Rattle.strings.specs.Strings.{text, sized_text}
use Rattle.strings.specs.Places.{text_at, text_end}
use Rattle.strings.proofs.TextLaws.{text_end_lem, text_inside, text_sound}
use Rattle.section.specs.declared.header.Header.{Header}
use Rattle.section.specs.Sections.{section_by}
use Rattle.entry.specs.declared.Entry.TheVariants.{Event, Dimension}
use Rattle.entry.proofs.EntryLaws.{judged_begins}
use Rattle.section_text.specs.declared.field.Which.{Which}
use Rattle.section_text.specs.declared.field.Which.TheVariants.{Title, Advisory, Extended, RegionName, DimensionName, ShortText, LongText}
use Rattle.section_text.specs.Fields.{kind_for}
use Rattle.section_text.specs.Inner.{Begun}

pub judged_begun : (s : List ℕ) (w : Which) (h : Header) → section_by (only_of (kind_for w)) s ≡ resulted h → Begun s w
judged_begun s (Title i) h e = judged_begins Event s h e
judged_begun s (Advisory i region) h e = judged_begins Event s h e
judged_begun s Extended h e = record {}
judged_begun s RegionName h e = judged_begins Dimension s h e
judged_begun s (DimensionName i) h e = judged_begins Dimension s h e
judged_begun s (ShortText i j) h e = judged_begins Dimension s h e
judged_begun s (LongText i j) h e = judged_begins Dimension s h e

-- the n bytes at a place are there, and are a sound text
pub record SoundIn (s : List ℕ) (at n : ℕ) : Type 0 where
  pub there : at + n ≤ length s
  pub sound : walks_all text s (at + n) at ≡ Ok (at + n)

-- the text behind a length that is walked
pub sized_sound : (s : List ℕ) (end at b : ℕ) → end ≤ length s → walks sized_text s end at ≡ Ok b
    → SoundIn s (text_at s at).start (text_at s at).length
unfolding text_at text_end
sized_sound s end at b h w = record {
  there = omega (arith, text_end_lem s end at b w, text_inside s end at b w);
  sound = text_sound s end at b w;
}

pub cut_out : (s : List ℕ) (p : Part) → Bytes s → SoundIn s p.start p.length
    → walks_all text (bytes_in s p) (length (bytes_in s p)) 0 ≡ Ok (length (bytes_in s p))
cut_out s p z g =
    let u = (text.law laws (record {})).complete s (p.start + p.length) p.start (omega arith) g.there z g.sound in
    let n : length (text.enc u.0) ≡ p.length = omega (arith, u.1.1.1) in
    let e : bytes_in s p ≡ text.enc u.0 = ap (λ k. take k (drop p.start s)) (sym n) ∙ u.1.1.0 in
    subst (λ l. walks_all text l (length l) 0 ≡ Ok (length l)) (sym e)
    ((text.law laws (record {})).sound _ (length (text.enc u.0)) 0 u.0 u.1.0 (take-length (text.enc u.0)) (omega arith))
