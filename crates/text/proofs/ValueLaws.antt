-- What is answered of a text is given by the strings and segments of its value: where it lies in a section, and as a field alone.
use Prim.Native.Nat.{ℕ, ◌+◌, ◌-◌, ◌≤◌, ◌<◌}
use mathlib.Core.Path.{◌≡◌, refl, sym, ap, ◌∙◌}
use Rattle.bytes_at.proofs.WalkLaws.{standing_to, standing_bad}
use mathlib.Core.Logic.{⊎_elim}
use mathlib.Core.List.{List}
use native.Mathlib.Nat.{eq-zero-or-pos}
use native.Mathlib.Omega.{arith}
use lib.ListN.{length, length-append}
use lib.Seq.{take-length}
use Rattle.bytes_at.specs.Walks.{Walk}
use Rattle.std.specs.Prelude.{Ok, Err, None, Some}
use Rattle.logic.proofs.ChoiceLaws.{eq_yes, eq_no}
use Rattle.refusal.specs.Outcomes.{Outcome, refused, resulted, after}
use Rattle.refusal.proofs.OutcomeLaws.{after_refused}
use Rattle.format.proofs.KeptLaws.{laws}
use Rattle.format.specs.Lawful.{Lies}
use Rattle.format.specs.Repeats.{Bytes, All, encs}
use Rattle.format.specs.Formats.{walks_all}
use Rattle.format.specs.Values.{bytes_of}
use Rattle.format.specs.Laws.OfValues.{bytes_length}
use Rattle.format.proofs.SizedLaws.{counted8_there}
use Rattle.format.proofs.RelocationLaws.{own_bytes}
use Rattle.strings.specs.Strings.{StringFields, segment, string, structure, text, strings_of}
use Rattle.text.specs.Strings.{string_count, string_at, joined_units, string_units, joined_replaced, string_replaced, string_heading}
use Rattle.text.specs.Values.{of_string, heading_of, units_of}
use Rattle.text.specs.Replaced.{replaced_of, told_from}
use Rattle.text.specs.Texts.{of_field, field_count, field_units, field_heading}
use Rattle.text.proofs.AmountLaws.{told_after}
use Rattle.text.proofs.TextLaws.{place_there, place_none, field_sound, field_bad}
use Rattle.text.proofs.ThereLaws.{segments_there, string_there, string_long, Agrees, there_told, none_told}

-- ---- a text that lies from `at` to the end of its container
-- the count is that of its strings; they lie behind it, if there are any
strings_there : (s : List ℕ) → Bytes s → (end at : ℕ) (t : text.Val) → text.Formed (record {}) t → Lies (text.enc t) s at
    → end ≡ at + length (text.enc t)
    → unfold string in ((string_count s end at ≡ length (strings_of t)) × (All (string.Formed (record {})) (strings_of t)
    × (Lies (encs string.enc (strings_of t)) s (at + 1)
    × (0 < length (strings_of t) → at + 1 + length (encs string.enc (strings_of t)) ≤ end))))
unfolding string_count text structure string strings_of
strings_there s z end at None o l e = (sym (eq_yes at end 0 _ (omega arith) refl), (record {}, (refl, λ h. absurd (omega arith))))
strings_there s z end at (Some ss) o l e =
    let c = counted8_there s z at string ss o l in
    let n = length-append (bytes_of 1 (0 + length ss)) (encs string.enc ss) in
    let k = bytes_length 1 (0 + length ss) in
    (sym (eq_no at end 0 _ (λ i. omega arith) (sym c.0)), (o.1.1.1, (c.1, λ h. omega arith)))

module _ (s : List ℕ) (z : Bytes s) (end at : ℕ) (t : text.Val) (o : text.Formed (record {}) t) (l : Lies (text.enc t) s at)
    (e : end ≡ at + length (text.enc t)) where
  pub count_told_lem : string_count s end at ≡ length (strings_of t)
  unfolding string
  count_told_lem = (strings_there s z end at t o l e).0

  string_told : {A : Type 0} (asked : ℕ → Outcome A) (told : StringFields → Outcome A) → Agrees s end asked told → (k : ℕ)
      → after (string_at s end at k) asked ≡ of_string told (strings_of t) k
  unfolding string
  string_told asked told agrees k =
      let c = strings_there s z end at t o l e in
      ⊎_elim
      (λ h. after_refused _ asked 13 (sym (place_none s end at k (omega arith)))
      ∙ none_told told (strings_of t) k (omega arith))
      (λ h. ap (λ x. after x asked) (sym (place_there s end at k (omega arith) refl))
      ∙ there_told s end asked told agrees (at + 1) (strings_of t) k c.1.0 c.1.1.0 (c.1.1.1 (omega arith)) (omega arith))
      (eq-zero-or-pos (length (strings_of t) - k))

  pub heading_told : (k : ℕ) → string_heading s end at k ≡ heading_of (strings_of t) k
  unfolding segment string string_heading
  heading_told k = string_told _ _ (λ b x p i h. ap resulted (string_there s z b x p i).0) k

  pub units_told_lem : (k : ℕ) → string_units s end at k ≡ units_of (strings_of t) k
  unfolding segment string string_units
  units_told_lem k =
      string_told _ _
      (λ b x p i h.
      let y = string_there s z b x p i in
      let n = string_long x in
      ap (λ g. joined_units s end g.segments (b + 4)) y.0 ∙ (segments_there s z end (b + 4) x.segments p.1.1.1 y.1 (omega arith)).0)
      k

  pub replaced_told : (k : ℕ) → string_replaced s end at k ≡ replaced_of (strings_of t) k
  unfolding segment string string_replaced
  replaced_told k =
      told_after (string_at s end at k) _
      ∙ ap (λ x. told_from x (λ n. n))
      (string_told _ _
      (λ b x p i h.
      let y = string_there s z b x p i in
      let n = string_long x in
      ap (λ g. resulted (joined_replaced s end g.segments (b + 4))) y.0
      ∙ ap resulted (segments_there s z end (b + 4) x.segments p.1.1.1 y.1 (omega arith)).1)
      k)

-- ---- a field alone
module _ (t : text.Val) (o : text.Formed (record {}) t) where
  text_bytes : Bytes (text.enc t)
  text_bytes = (text.law laws (record {})).bytes t o

  pub count_is : string_count (text.enc t) (length (text.enc t)) 0 ≡ length (strings_of t)
  count_is = count_told_lem (text.enc t) text_bytes _ 0 t o (take-length (text.enc t)) (omega arith)

  pub heading_is : (k : ℕ) → string_heading (text.enc t) (length (text.enc t)) 0 k ≡ heading_of (strings_of t) k
  heading_is = heading_told (text.enc t) text_bytes _ 0 t o (take-length (text.enc t)) (omega arith)

  pub units_is : (k : ℕ) → string_units (text.enc t) (length (text.enc t)) 0 k ≡ units_of (strings_of t) k
  units_is = units_told_lem (text.enc t) text_bytes _ 0 t o (take-length (text.enc t)) (omega arith)

  pub replaced_is : (k : ℕ) → string_replaced (text.enc t) (length (text.enc t)) 0 k ≡ replaced_of (strings_of t) k
  replaced_is = replaced_told (text.enc t) text_bytes _ 0 t o (take-length (text.enc t)) (omega arith)

  -- it is not refused by 9
  not_nine : {A : Type 0} (x : Outcome A) → of_field (text.enc t) x ≡ x
  not_nine x = field_sound (text.enc t) x _ (sym (standing_to _ _ ((text.law laws (record {})).sound (text.enc t) _ 0 t o (take-length (text.enc t)) (omega arith))))

  pub field_count_lem : field_count (text.enc t) ≡ resulted (length (strings_of t))
  unfolding field_count
  field_count_lem = not_nine _ ∙ ap resulted count_is

  pub field_heading_lem : (k : ℕ) → field_heading (text.enc t) k ≡ heading_of (strings_of t) k
  unfolding field_heading
  field_heading_lem k = not_nine _ ∙ heading_is k

  pub field_units_lem : (k : ℕ) → field_units (text.enc t) k ≡ units_of (strings_of t) k
  unfolding field_units
  field_units_lem k = not_nine _ ∙ units_is k

-- bytes that are no text are refused by 9, whatever is asked
pub field_nine : (f : List ℕ) → Bytes f → ((t : text.Val) → text.Formed (record {}) t → f ≡ text.enc t → ⊥)
    → {A : Type 0} (x : Outcome A) → of_field f x ≡ refused 9
field_nine f z none_is x = by (walks_all text f (length f) 0) refl
  where
    by : (w : Walk) → walks_all text f (length f) 0 ≡ w → of_field f x ≡ refused 9
    by (Ok e) w = let u = (own_bytes text (record {}) f z).0 (e, w) in absurd (none_is u.0 u.1.0 u.1.1)
    by (Err y) w = field_bad f x 9 (sym (standing_bad _ y w))
