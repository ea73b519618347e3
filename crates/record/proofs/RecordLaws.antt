-- Whether a record that has its first bytes and the mark is whole.
use Prim.Native.Nat.{ℕ, ◌+◌, ◌≤◌, ◌<◌}
use mathlib.Core.Path.{◌≡◌, refl, ap, ◌∙◌}
use mathlib.Core.Bool.{Bool, true, false, not}
use mathlib.Core.List.{List}
use native.Mathlib.Omega.{arith}
use lib.Dec.{leb, ltb}
use lib.ListN.{length}
use Rattle.std.proofs.lemmas.Bool.Decides.{nat_tests}
use Rattle.logic.specs.Choices.{pick, if_lt}
use Rattle.logic.proofs.ChoiceLaws.{lt_yes, lt_no, eq_yes}
use Rattle.record.specs.Records.{mark_in, head_size, length_in, whole}

module _ (r : List ℕ) (long : head_size ≤ length r) (mark : mark_in r ≡ 0xA55A) where
  pub cut_off : length r < head_size + length_in r → false ≡ whole r
  unfolding whole
  cut_off h = lt_no (length r) head_size false _ long (eq_yes (mark_in r) 0xA55A _ false mark (lt_yes (length r) (head_size + length_in r) false true h refl))

  pub all_there : head_size + length_in r ≤ length r → true ≡ whole r
  unfolding whole
  all_there h = lt_no (length r) head_size false _ long (eq_yes (mark_in r) 0xA55A _ false mark (lt_no (length r) (head_size + length_in r) false true h refl))

-- as a test: as many bytes follow as the first ones tell
not_is : (b : Bool) → not b ≡ pick b false true
not_is true = refl
not_is false = refl

no_less : (x y : ℕ) → leb y x ≡ not (ltb x y)
no_less x y = grind (arith, nat_tests)

pub long_enough : (r : List ℕ) {n : ℕ} → n ≡ length_in r → leb (head_size + n) (length r) ≡ if_lt (length r) (head_size + length_in r) false true
unfolding if_lt
long_enough r e =
    let whole_size = head_size + length_in r in
    ap (λ (m : ℕ). leb (head_size + m) (length r)) e ∙ no_less (length r) whole_size ∙ not_is (ltb (length r) whole_size)
