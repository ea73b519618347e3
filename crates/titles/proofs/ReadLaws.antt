-- One title: what was read into an array is what is told of it, and it has at most eight units for each byte.
use Prim.Native.Nat.{ℕ, ◌+◌, ◌-◌, ◌*◌, ◌<◌, ◌≤◌}
use mathlib.Core.Path.{◌≡◌, refl, sym, ap, ◌∙◌, subst}
use mathlib.Core.Bool.{Bool, true, false}
use mathlib.Core.List.{List}
use native.Mathlib.Omega.{arith}
use lib.Dec.{eqb}
use lib.ListN.{length, take, drop, length-take}
use lib.Seq.{sets, length-take-le}
use Rattle.logic.specs.Choices.{pick, if_eq}
use Rattle.bytes_at.specs.Fields.{byte_at}
use Rattle.refusal.specs.declared.Refusal.{Refusal}
use Rattle.refusal.specs.Numbers.{number_of}
use Rattle.refusal.specs.Outcomes.{Outcome, refused, resulted}
use Rattle.refusal.proofs.OutputLaws.{from_number}
use Rattle.part.specs.declared.Part.{Part}
use Rattle.part.specs.Parts.{bytes_in}
use Rattle.format.specs.Repeats.{Bytes}
use Rattle.strings.specs.Places.{text_at, text_end}
use Rattle.descriptor.specs.Places.{list_end}
use Rattle.segment.proofs.TextLaws.{stored}
use Rattle.text.specs.declared.answer.Amount.{Amount}
use Rattle.std.specs.Prelude.{Result, Ok, Err}
use Rattle.text.specs.Strings.{string_units, string_replaced}
use Rattle.text.specs.Inner.{OnceAll}
use Rattle.text.proofs.AmountLaws.{from_amount, from_replaced, from_no_amount}
use Rattle.text.proofs.FewLaws.{Few, string_few}
use Rattle.eit.specs.declared.event.Title.{Title}
use Rattle.eit.specs.declared.event.Title.TheVariants.{None, NoStrings, Text}
use Rattle.eit.specs.Titles.{title_of}
use Rattle.eit.specs.Fields.{title_part, title_at, event_end}
use Rattle.titles.specs.declared.title.Found.{Found}
use Rattle.titles.specs.declared.title.Found.TheVariants as found
use Rattle.titles.specs.Titles.{TitleTold, text, text_told, told_of, title_told, units_told, title_row}
use Rattle.titles.specs.Inner.{unit_count, row_of, told, Read}

-- ---- a text by the answer and the array
module _ (x : Outcome (List ℕ)) (p : ℕ) (l e : List ℕ) (h : length l ≡ 2040) (g : p < 256) where
  pub read_found : (r : Result Amount Refusal) → OnceAll x p l r e → Read (text_told p x) (found.Text r) e
  unfolding text_told told
  read_found (Err k) o =
      let v = from_no_amount p x (number_of k) o.wrote.answers in
      record { tells = rw v; few = omega arith; rare = omega arith }
  read_found (Ok a) o =
      let n : ℕ = a.units in
      let f = from_number x n (from_amount p x a o.wrote.answers) in
      let m = from_replaced p x a o.wrote.answers in
      let b = o.few a refl in
      let w = o.wrote.stores f.0 f.1.0 in
      let room : length f.0 ≤ length l = omega (arith, f.1.1) in
      let t : take n e ≡ f.0 = ap (take n) w ∙ ap (λ (i : ℕ). take i (sets l 0 f.0)) f.1.1 ∙ stored l f.0 room in
      record { tells = (λ i. text (t i) (m i)) ∙ sym (ap (text_told p) f.1.0); few = b; rare = omega (arith, g, m) }

-- ---- what was read is what is told: its numbers, and its units
module _ {t : TitleTold} {r : Found} {o : List ℕ} (i : Read t r o) (h : length o ≡ 2040) where
  count_by : (r : Found) → unit_count r ≤ length o → unit_count r ≡ length (units_told (told r o))
  unfolding told units_told
  count_by found.NoTitle h = refl
  count_by found.NoStrings h = refl
  count_by (found.Text (Err k)) h = refl
  count_by (found.Text (Ok a)) h = sym (length-take-le a.units o h)

  row_by : (n : ℕ) (r : Found) → unit_count r ≤ length o → row_of n r ≡ title_row n (told r o)
  unfolding told row_of title_row
  row_by n found.NoTitle h = refl
  row_by n found.NoStrings h = refl
  row_by n (found.Text (Err k)) h = refl
  row_by n (found.Text (Ok a)) h = rw (length-take-le a.units o h)

  units_by_lem : (r : Found) → take (unit_count r) o ≡ units_told (told r o)
  unfolding told units_told
  units_by_lem found.NoTitle = refl
  units_by_lem found.NoStrings = refl
  units_by_lem (found.Text (Err k)) = refl
  units_by_lem (found.Text (Ok a)) = refl

  fits : unit_count r ≤ length o
  fits = omega (arith, i.few)

  pub count_told_lem : unit_count r ≡ length (units_told t)
  count_told_lem = rw (← i.tells) (count_by r fits)

  pub row_told : (n : ℕ) → row_of n r ≡ title_row n t
  row_told n = rw (← i.tells) (row_by n r fits)

  pub units_told_lem : take (unit_count r) o ≡ units_told t
  units_told_lem = rw (← i.tells) (units_by_lem r)

-- ---- a title has at most 255 bytes, and at most eight units for each of them
module _ (P : Title → Type 0) (s : List ℕ) (start n : ℕ) (p : P None) (q : P NoStrings) (r : P (Text (record { start = start; length = n }))) where
  any_sort : P (title_of s start n)
  unfolding title_of if_eq
  any_sort = by (eqb n 0) (eqb n 1) (eqb (byte_at s start) 0)
    where
      by : (t u v : Bool) → P (pick t None (pick u (pick v NoStrings (Text (record { start = start; length = n }))) (Text (record { start = start; length = n }))))
      by true u v = p
      by false true true = q
      by false true false = r
      by false false v = r

abbrev Short : Title → Type 0
Short None = record {}
Short NoStrings = record {}
Short (Text p) = p.length < 256

short_title : (s : List ℕ) (a : ℕ) → Bytes s → Short (title_at s a)
unfolding title_at title_part text_at
short_title s a z = any_sort Short s _ _ (record {}) (record {}) (z _)

pub title_short : (s : List ℕ) (a : ℕ) (t : Title) (p : Part) → Bytes s → t ≡ title_at s a → t ≡ Text p → p.length < 256
title_short s a t p z e q = subst Short (sym e ∙ q) (short_title s a z)

text_few : (m replaced : ℕ) (x : Outcome (List ℕ)) → Few m x → length (units_told (text_told replaced x)) ≤ m
unfolding text_told units_told
text_few m replaced (refused k) f = omega arith
text_few m replaced (resulted us) f = f

part_few : (s : List ℕ) (p : Part) → length (units_told (told_of s (Text p))) ≤ 8 * p.length
unfolding told_of
part_few s p =
    let f = bytes_in s p in
    omega (arith, text_few (8 * (length f - 0)) (string_replaced f (length f) 0 0) (string_units f (length f) 0 0) (string_few f (length f) 0 0), length-take p.length (drop p.start s))

pub title_few : (s : List ℕ) (a : ℕ) → length (units_told (title_told s a)) ≤ 8 * (title_part s a).length
unfolding title_told title_at told_of units_told
title_few s a =
    any_sort (λ t. length (units_told (told_of s t)) ≤ 8 * (title_part s a).length) s _ _ (omega arith) (omega arith) (part_few s (title_part s a))

-- and its event ends behind it
pub title_inside : (s : List ℕ) (a : ℕ) → a + (title_part s a).length ≤ event_end s a
unfolding title_part event_end text_at text_end list_end
title_inside s a = omega arith
