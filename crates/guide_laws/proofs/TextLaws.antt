-- The numbers that are told of a text have 32 bits: of a field by itself, and of a text of a section.
use Rattle.std.specs.Prelude.{Option, None, Some}
use Prim.Native.Nat.{ℕ, zero, suc, ◌*◌, ◌-◌, ◌≤◌, ◌<◌}
use mathlib.Core.Path.{◌≡◌, refl}
use mathlib.Core.List.{List, [], ◌∷◌}
use native.Mathlib.Omega.{arith}
use lib.Dec.{eqb}
use lib.ListN.{length, take, drop, length-take, length-drop}
use Rattle.logic.specs.Choices.{if_eq}
use Rattle.refusal.specs.Outcomes.{Outcome, refused, resulted}
use Rattle.refusal.proofs.OutcomeLaws.{after_is, same_result, not_both}
use Rattle.refusal.proofs.TestLaws.{passed_le}
use Rattle.kind.specs.Kinds.{only_of}
use Rattle.bytes_at.specs.Fields.{byte_at}
use Rattle.format.specs.Repeats.{Bytes}
use Rattle.format.specs.Formats.{walks_all}
use Rattle.strings.specs.Strings.{text}
use Rattle.part.specs.declared.Part.{Part}
use Rattle.part.specs.Parts.{bytes_in}
use Rattle.text.specs.Answers.{amount_of}
use Rattle.bytes_at.specs.Walks.{standing}
use Rattle.text.specs.Strings.{string_count, string_at, string_replaced, string_heading, heading_before}
use Rattle.text.specs.Replaced.{told_from}
use Rattle.text.specs.Texts.{of_field, fitting, field_count, field_units, field_replaced, field_heading}
use Rattle.text.proofs.AmountLaws.{none_joined}
use Rattle.text.proofs.FewLaws.{few_units}
use Rattle.section.specs.Sections.{section_by}
use Rattle.section_text.specs.declared.field.Which.{Which}
use Rattle.section_text.specs.Fields.{kind_for, field_of}
use Rattle.section_text.specs.Texts.{text_count, text_heading, text_units, text_replaced}
use Rattle.telling.specs.Told.{one_number}
use Rattle.telling.specs.Fields.{heading_numbers, amount_numbers}
use Rattle.telling.specs.Texts.{which_of, string_of, of_text}
use Rattle.guide_laws.specs.Whole.{Whole, FieldWhole, TextWhole, Short}
use Rattle.guide_laws.proofs.SmallLaws.{told_whole, picked, judged_size}

-- a part of bytes has bytes
take_bytes : (n : ℕ) (l : List ℕ) → Bytes l → Bytes (take n l)
take_bytes zero l h i = omega arith
take_bytes (suc n) [] h i = omega arith
take_bytes (suc n) (x ∷ l) h zero = h zero
take_bytes (suc n) (x ∷ l) h (suc i) = take_bytes n l (λ j. h (suc j)) i

drop_bytes : (n : ℕ) (l : List ℕ) → Bytes l → Bytes (drop n l)
drop_bytes zero l h = h
drop_bytes (suc n) [] h = h
drop_bytes (suc n) (x ∷ l) h = drop_bytes n l (λ j. h (suc j))

-- no segment is replaced today
from_none : {A : Type 0} (o : Outcome A) (k : A → ℕ) → ((a : A) → k a ≡ 0) → told_from o k ≡ 0
unfolding told_from
from_none (refused n) k h = refl
from_none (resulted a) k h = h a

replaced_none : (s : List ℕ) (end at k : ℕ) → string_replaced s end at k ≡ 0
unfolding string_replaced
replaced_none s end at k = from_none (string_at s end at k) _ (λ b. none_joined s end _ b)

-- 12 leaves the units as they are
fitted : (room : ℕ) (x : Outcome (List ℕ)) (us : List ℕ) → fitting room x ≡ resulted us → x ≡ resulted us
unfolding fitting
fitted room x us e =
    let p = after_is x _ us e in
    let q = passed_le 12 (length p.0) room _ us p.1.1 in
    rw (← same_result p.0 us q.1) p.1.0

-- an amount of few units, none of which stand for a replaced segment
amount_whole : (n most : ℕ) (x : Outcome (List ℕ)) → n ≡ 0 → most < 4294967296 → ((us : List ℕ) → x ≡ resulted us → length us ≤ most) → Whole amount_numbers (amount_of n x)
unfolding amount_of
amount_whole n most x z h few a e =
    let p = after_is x _ a e in
    let l = few p.0 p.1.0 in
    told_whole amount_numbers _ a p.1.1 (omega arith, (omega arith, record {}))

-- ---- the strings of bytes that a text stands in
module _ (f : List ℕ) (bytes : Bytes f) where
  count_whole : Whole one_number (resulted (string_count f (length f) 0))
  unfolding string_count if_eq
  count_whole n e =
      let c = picked (λ (m : ℕ). m < 256) (eqb 0 (length f)) 0 (byte_at f 0) (omega arith) (bytes 0) in
      told_whole one_number _ n e (omega (arith, c), record {})

  heading_whole : (k : ℕ) → Whole heading_numbers (string_heading f (length f) 0 k)
  unfolding string_heading
  heading_whole k h e =
      let p = after_is (string_at f (length f) 0 k) _ h e in
      let b = p.0 in
      told_whole heading_numbers (heading_before f b) h p.1.1
      (omega (arith, bytes (b - 4), bytes (b - 3), bytes (b - 2)), (omega (arith, bytes (b - 1)), record {}))

-- ---- of a field by itself
of_field_lem : {A : Type 0} (f : List ℕ) (x : Outcome A) (a : A) → of_field f x ≡ resulted a → x ≡ resulted a
unfolding of_field
of_field_lem f x a e = (after_is (standing (walks_all text f (length f) 0)) _ a e).1.1

module _ (f : List ℕ) (bytes : Bytes f) (low : Short f) where
  field_units_lem : (k : ℕ) (us : List ℕ) → field_units f k ≡ resulted us → length us ≤ 8 * length f
  unfolding field_units
  field_units_lem k us e = omega (arith, few_units f (length f) 0 k us (of_field_lem f _ us e))

  pub fields_whole : FieldWhole f
  unfolding field_count field_heading
  fields_whole = record {
    count = λ n e. count_whole f bytes n (of_field_lem f _ n e);
    heading = λ k h e. heading_whole f bytes k h (of_field_lem f _ h e);
    units = λ k. amount_whole (field_replaced f k) (8 * length f) _ (replaced_none f (length f) 0 k) (omega arith) (field_units_lem k);
    text = λ k room. amount_whole (field_replaced f k) (8 * length f) _ (replaced_none f (length f) 0 k) (omega arith)
        (λ us e. field_units_lem k us (fitted room (field_units f k) us e));
  }

-- ---- of a text of a section
of_text_lem : {A : Type 0} (f : A → List ℕ) (o : Option Which) (g : Which → Outcome A) → ((w : Which) → Whole f (g w)) → Whole f (of_text o g)
unfolding of_text
of_text_lem f None g h a e = not_both 13 a e
of_text_lem f (Some w) g h a e = h w a e

module _ (s : List ℕ) (bytes : Bytes s) where
  part_bytes : (p : Part) → Bytes (bytes_in s p)
  part_bytes p = take_bytes p.length (drop p.start s) (drop_bytes p.start s bytes)

  text_units_lem : (w : Which) (k : ℕ) (us : List ℕ) → text_units s w k ≡ resulted us → length us ≤ 32768
  unfolding text_units field_of
  text_units_lem w k us e =
      let p = after_is (field_of s w) _ us e in
      let h = after_is (section_by (only_of (kind_for w)) s) _ p.0 p.1.0 in
      let n = judged_size (kind_for w) s h.0 h.1.0 in
      let l : length (bytes_in s p.0) ≤ length s = simp (length-take, length-drop) (omega arith) in
      omega (arith, n, l, few_units (bytes_in s p.0) (length (bytes_in s p.0)) 0 k us p.1.1)

  text_replaced_lem : (w : Which) (k : ℕ) → text_replaced s w k ≡ 0
  unfolding text_replaced
  text_replaced_lem w k = from_none (field_of s w) _ (λ p. replaced_none (bytes_in s p) (length (bytes_in s p)) 0 k)

  text_count_lem : (w : Which) → Whole one_number (text_count s w)
  unfolding text_count
  text_count_lem w n e = let p = after_is (field_of s w) _ n e in count_whole (bytes_in s p.0) (part_bytes p.0) n p.1.1

  text_heading_lem : (w : Which) (k : ℕ) → Whole heading_numbers (text_heading s w k)
  unfolding text_heading
  text_heading_lem w k h e = let p = after_is (field_of s w) _ h e in heading_whole (bytes_in s p.0) (part_bytes p.0) k h p.1.1

  pub texts_whole : (q : List ℕ) → TextWhole s q
  texts_whole q = record {
    count = of_text_lem one_number (which_of q) _ text_count_lem;
    heading = of_text_lem heading_numbers (which_of q) _ (λ w. text_heading_lem w (string_of q));
    units = of_text_lem amount_numbers (which_of q) _ (λ w. amount_whole _ 32768 _ (text_replaced_lem w (string_of q)) (omega arith) (text_units_lem w (string_of q)));
    text = λ room. of_text_lem amount_numbers (which_of q) _ (λ w. amount_whole _ 32768 _ (text_replaced_lem w (string_of q)) (omega arith)
        (λ us e. text_units_lem w (string_of q) us (fitted room (text_units s w (string_of q)) us e)));
  }
