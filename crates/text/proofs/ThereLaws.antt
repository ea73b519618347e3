-- Segments and strings where they lie: what is answered of them is told by their values.
use Prim.Native.Nat.{ℕ, zero, suc, ◌+◌, ◌-◌, ◌*◌, ◌^◌, ◌≤◌, ◌<◌}
use mathlib.Core.Path.{◌≡◌, refl, sym, ap, ◌∙◌}
use mathlib.Core.List.{List, [], ◌∷◌}
use native.Mathlib.Omega.{arith}
use lib.ListN.{length, length-append}
use Rattle.bytes_at.specs.Fields.{byte_at}
use Rattle.bytes_at.specs.Bits.{field_at}
use Rattle.bytes_at.specs.Walks.{fields_to, then, many, standing}
use Rattle.bytes_at.proofs.BitLaws.{byte_bits_lem, all_at, join_at}
use Rattle.refusal.specs.Outcomes.{Outcome, refused, after}
use Rattle.refusal.proofs.OutcomeLaws.{after_result}
use Rattle.format.proofs.KeptLaws.{laws}
use Rattle.format.specs.Lawful.{Lies}
use Rattle.format.specs.Repeats.{Bytes, All, encs}
use Rattle.format.specs.Formats.{walks, last_byte, raw, times}
use Rattle.format.specs.Values.{bits, number, bytes_of}
use Rattle.format.specs.Laws.OfBytes.{lies_split}
use Rattle.format.proofs.StepLaws.{fields_fit}
use Rattle.format.specs.Laws.OfValues.{bytes_length}
use Rattle.format.specs.Laws.OfTold.{told_there, last_tells}
use Rattle.strings.specs.Strings.{SegmentFields, StringFields, segment, string}
use Rattle.text.specs.Segments.{way_of}
use Rattle.text.specs.Strings.{segment_units, segment_replaced, heading_before, joined_units, joined_replaced}
use Rattle.text.specs.Values.{joined, segment_for, segments_for, heading_for, of_string}
use Rattle.text.specs.Replaced.{replaced_by, replaced_for}
use Rattle.text.proofs.UnitLaws.{units_at}
use Rattle.text.proofs.AmountLaws.{told_result}
use Rattle.bytes_at.proofs.WalkLaws.{standing_to}

-- ---- the parts of a text where they lie
module _ (s : List ℕ) (z : Bytes s) where
  -- byte i, which is j bytes after a
  byte_field : (a i j : ℕ) → i ≡ a + j → byte_at s i ≡ field_at s a (8 * j) 8
  byte_field a i j e = all_at s a i j e 8 (byte_bits_lem s i (z i))

  segment_there : (a : ℕ) (g : SegmentFields)
      → unfold segment in (segment.Formed (record {}) g → Lies (segment.enc g) s a
      → (segment_units s a ≡ segment_for g) × (segment_replaced s a ≡ replaced_by (way_of g.compression g.mode)))
  unfolding segment segment_replaced
  segment_there a g o l =
      let t = told_there (bits 8 ∷ bits 8 ∷ []) 8 3 refl last_byte (λ v m. m) (last_tells (bits 8 ∷ bits 8 ∷ []) 2 refl) (raw 1) (λ x. length x)
      (λ v m x o. o.0) s a (g.compression, (g.mode, record {})) g.bytes o l in
      let c = byte_field a a 0 (omega arith) ∙ ap (λ v. v.0) t.0.0 in
      let m = byte_field a (a + 1) 1 refl ∙ ap (λ v. v.1.0) t.0.0 in
      let n = byte_field a (a + 2) 2 refl ∙ t.0.1 in (
        sym (units_at s g.bytes a _ _ _ (way_of g.compression g.mode) (sym c) (sym m) (sym n) refl (sym t.1)),
        λ i. replaced_by (way_of (c i) (m i)),
      )

  pub segments_there : (end a : ℕ) (gs : List SegmentFields)
      → unfold segment in (All (segment.Formed (record {})) gs → Lies (encs segment.enc gs) s a → a + length (encs segment.enc gs) ≤ end
      → (joined_units s end (length gs) a ≡ segments_for gs) × (joined_replaced s end (length gs) a ≡ replaced_for gs))
  unfolding segment joined_units segments_for joined_replaced replaced_for
  segments_there end a [] o l h = (refl, refl)
  segments_there end a (g ∷ gs) o l h =
      let i = lies_split (segment.enc g) (encs segment.enc gs) s a l in
      let n = length-append (segment.enc g) (encs segment.enc gs) in
      let w = (segment.law laws (record {})).sound s end a g o.0 i.0 (omega arith) in
      let u = segment_there a g o.0 i.0 in
      let v = segments_there end (a + length (segment.enc g)) gs o.1 i.1 (omega arith) in
      let b = sym (standing_to _ _ w) in (
        after_result (standing (walks segment s end a)) _ _ b ∙ (λ j. joined (u.0 j) (v.0 j)),
        told_result (standing (walks segment s end a)) _ _ b ∙ (λ j. u.1 j + v.1 j),
      )

  -- the head of a string, and that its segments lie behind it
  pub string_there : (b : ℕ) (x : StringFields)
      → unfold segment string in (string.Formed (record {}) x → Lies (string.enc x) s b
      → (heading_before s (b + 4) ≡ heading_for x) × Lies (encs segment.enc x.segments) s (b + 4))
  unfolding segment string
  string_there b x o l =
      let t = told_there (bits 24 ∷ []) 8 4 refl last_byte (λ v m. m) (last_tells (bits 24 ∷ []) 3 refl) (times segment) (λ x. length x)
      (λ v m x o. o.0) s b (x.language, record {}) x.segments o l in
      let low = join_at s b 8 8 8 (byte_field b (b + 4 - 3) 1 (omega arith)) (byte_field b (b + 4 - 2) 2 (omega arith)) in
      let all = join_at s b 0 8 16 (byte_field b (b + 4 - 4) 0 (omega arith)) low in
      let m : (heading_before s (b + 4)).language ≡ x.language = omega (arith, all ∙ ap (λ v. v.0) t.0.0) in
      let n = byte_field b (b + 4 - 1) 3 (omega arith) ∙ t.0.1 in
      ((λ i. record { language = m i; segments = n i }), t.1)

pub string_long : (x : StringFields) → unfold segment string in (length (string.enc x) ≡ 4 + length (encs segment.enc x.segments))
unfolding segment string
string_long x =
    let n = number (bits 24 ∷ []) (x.language, record {}) * 2 ^ 8 + length x.segments in
    omega (arith, length-append (bytes_of 4 n) (encs segment.enc x.segments), bytes_length 4 n)

-- what is asked behind the head of a string is told of the string, wherever it lies in a container
abbrev pub Agrees : {A : Type 0} → List ℕ → ℕ → (ℕ → Outcome A) → (StringFields → Outcome A) → Type 0
unfolding string
Agrees s end asked told =
    (b : ℕ) (x : StringFields) → string.Formed (record {}) x → Lies (string.enc x) s b → b + length (string.enc x) ≤ end → asked (b + 4) ≡ told x

-- ---- string k of those that lie one after the other; 13 where there is none
module _ {A : Type 0} (s : List ℕ) (end : ℕ) (asked : ℕ → Outcome A) (told : StringFields → Outcome A) (agrees : Agrees s end asked told) where
  pub there_told : (a : ℕ) (xs : List StringFields) (k : ℕ)
      → unfold string in (All (string.Formed (record {})) xs → Lies (encs string.enc xs) s a → a + length (encs string.enc xs) ≤ end → k < length xs
      → after (standing (then (many (walks string s end) k a) (λ b. fields_to (24 ∷ 8 ∷ []) b end))) asked ≡ of_string told xs k)
  unfolding segment string many then of_string
  there_told a [] k o l h i = absurd (omega arith)
  there_told a (x ∷ xs) zero o l h i =
      let j = lies_split (string.enc x) (encs string.enc xs) s a l in
      let n = length-append (string.enc x) (encs string.enc xs) in
      let m = string_long x in
      let f = fields_fit (24 ∷ 8 ∷ []) 4 refl a end (omega arith) in
      after_result _ asked (a + 4) (sym (standing_to _ (a + 4) f)) ∙ agrees a x o.0 j.0 (omega arith)
  there_told a (x ∷ xs) (suc k) o l h i =
      let j = lies_split (string.enc x) (encs string.enc xs) s a l in
      let n = length-append (string.enc x) (encs string.enc xs) in
      let w = (string.law laws (record {})).sound s end a x o.0 j.0 (omega arith) in
      ap (λ v. after (standing (then (then v (many (walks string s end) k)) (λ b. fields_to (24 ∷ 8 ∷ []) b end))) asked) w
      ∙ there_told (a + length (string.enc x)) xs k o.1 j.1 (omega arith) (omega arith)

pub none_told : {A : Type 0} (told : StringFields → Outcome A) (xs : List StringFields) (k : ℕ) → length xs ≤ k → refused 13 ≡ of_string told xs k
unfolding of_string
none_told told [] k h = refl
none_told told (x ∷ xs) zero h = absurd (omega arith)
none_told told (x ∷ xs) (suc k) h = none_told told xs k (omega arith)
