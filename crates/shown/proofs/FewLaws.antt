-- How many bytes a number and a title are shown by, at most.
use Prim.Native.Nat.{ℕ, zero, suc, ◌+◌, ◌-◌, ◌*◌, ◌/◌, ◌%◌, ◌^◌, ◌≤◌, ◌<◌}
use mathlib.Core.Path.{◌≡◌, refl}
use mathlib.Core.Bool.{Bool, true, false}
use mathlib.Core.List.{List, [], ◌∷◌, ◌++◌}
use native.Mathlib.Omega.{arith}
use lib.Dec.{ltb}
use lib.ListN.{length, length-append}
use borrow.Author.Tests.{ltb-false}
use Rattle.logic.specs.Choices.{pick, if_lt}
use Rattle.refusal.specs.Outcomes.{Outcome, refused, resulted}
use Rattle.text.specs.Strings.{string_units}
use Rattle.text.proofs.FewLaws.{Few, string_few}
use Rattle.eit.specs.declared.event.Title.{Title}
use Rattle.eit.specs.declared.event.Title.TheVariants.{Text}
use Rattle.eit.specs.Titles.{title_of}
use Rattle.shown.specs.Ascii.{ascii, digit, decimal_by, decimal, field}
use Rattle.shown.specs.Titles.{escaped, plain, shown, all_shown, text_shown, title_shown}
use Rattle.shown.proofs.BothLaws.{either, eq_either}

-- ---- numbers
abbrev tens : ℕ → ℕ
tens zero = 1
tens (suc k) = 10 * tens k

digits_by : (most x k : ℕ) (t : Bool) → ltb x 10 ≡ t → x < tens (suc k)
    → ((j : ℕ) → x / 10 < tens (suc j) → length (decimal_by most (x / 10)) ≤ suc j)
    → length (pick t (digit x ∷ []) (decimal_by most (x / 10) ++ (digit (x % 10) ∷ []))) ≤ suc k
digits_by most x k true e h rest = omega arith
digits_by most x zero false e h rest = absurd (omega (arith, ltb-false x 10 e))
digits_by most x (suc k) false e h rest =
    omega (arith, length-append (decimal_by most (x / 10)) (digit (x % 10) ∷ []), rest k (omega arith))

digits_few : (most k x : ℕ) → x < tens (suc k) → length (decimal_by most x) ≤ suc k
unfolding decimal_by if_lt
digits_few zero k x h = omega arith
digits_few (suc most) k x h = digits_by most x k (ltb x 10) refl h (λ j l. digits_few most j (x / 10) l)

-- a number that the program holds
pub number_few : (x : ℕ) → x < 2 ^ 64 → length (decimal x) ≤ 20
unfolding decimal
number_few x h = digits_few (suc x) 19 x (omega arith)

pub field_few : (w : List ℕ) (x : ℕ) → x < 2 ^ 64 → length (field w x) ≤ length w + 20
unfolding field
field_few w x h = omega (arith, length-append w (decimal x), number_few x h)

-- ---- a title
unit_few : (u : ℕ) → length (shown u) ≤ 6
unfolding shown escaped
unit_few u = either (λ (l : List ℕ). length l ≤ 6) (u ∷ []) (escaped u) (omega arith) (omega arith) (plain u)

units_few : (us : List ℕ) → length (all_shown us) ≤ 6 * length us
unfolding all_shown
units_few [] = omega arith
units_few (u ∷ us) = omega (arith, length-append (shown u) (all_shown us), unit_few u, units_few us)

text_few : (m : ℕ) (x : Outcome (List ℕ)) → Few m x → length (text_shown x) ≤ 28 + 6 * m
unfolding text_shown
text_few m (refused k) f = omega (arith, number_few k (omega arith))
text_few m (resulted us) f = omega (arith, length-append (all_shown us) (ascii "\""), units_few us)

module _ (s : List ℕ) (start n : ℕ) where
  abbrev pub Short : Title → Type 0
  Short t = length (title_shown s t) ≤ 28 + 48 * n

  string_shown : Short (Text (record { start = start; length = n }))
  unfolding title_shown
  string_shown = omega (arith, text_few (8 * (start + n - start)) (string_units s (start + n) start 0) (string_few s (start + n) start 0))

  pub title_few : Short (title_of s start n)
  unfolding title_shown title_of
  title_few =
      eq_either Short _ _ (omega arith) (eq_either Short _ _ (eq_either Short _ _ (omega arith) string_shown _ _) string_shown _ _) _ _
