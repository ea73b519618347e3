-- How units are shown, one after the other.
use Prim.Native.Nat.{ℕ, suc, ◌+◌, ◌/◌, ◌%◌, ◌≤◌, ◌<◌}
use mathlib.Core.Path.{◌≡◌, refl, sym, ap, ◌∙◌, subst}
use mathlib.Core.Bool.{Bool, true, false, not}
use mathlib.Core.List.{List, [], ◌∷◌, ◌++◌, append-nil, append_assoc}
use native.Mathlib.Omega.{arith}
use lib.Dec.{T, eqb, ltb}
use lib.ListN.{length, get_or, take}
use lib.Seq.{take-suc}
use borrow.Author.Tests.{ltb-false}
use Rattle.logic.specs.Choices.{pick, if_lt, if_eq}
use Rattle.logic.proofs.ChoiceLaws.{lt_yes, lt_no, eq_no}
use Rattle.shown.specs.Ascii.{hex_digit}
use Rattle.shown.specs.Titles.{escaped, plain, shown, all_shown}
use Rattle.shown.specs.Output.{Put}
use Rattle.shown.proofs.PutLaws.{put_then}

-- ---- which units print plainly
module _ (u : ℕ) where
  pub plain_low : u < 32 → false ≡ plain u
  unfolding plain
  plain_low h = lt_yes u 32 false _ h refl

  pub plain_high : 32 ≤ u → 126 < u → false ≡ plain u
  unfolding plain
  plain_high h g = lt_no u 32 false _ h (lt_yes 126 u false _ g refl)

  pub plain_mark : (m : ℕ) → false ≡ plain m → u ≡ m → false ≡ plain u
  plain_mark m h e = h ∙ ap plain (sym e)

  pub plain_other : 32 ≤ u → u ≤ 126 → (u ≡ 34 → ⊥) → not (eqb u 92) ≡ plain u
  unfolding plain if_eq
  plain_other h g i = lt_no u 32 false _ h (lt_no 126 u false _ g (eq_no u 34 false _ i (by (eqb u 92))))
    where
      by : (t : Bool) → not t ≡ pick t false true
      by true = refl
      by false = refl

pub quote_not : false ≡ plain 34
unfolding plain if_lt if_eq
quote_not = refl

not_first : (t b : Bool) → pick t false b ≡ true → (t ≡ false) × (b ≡ true)
not_first true b e = absurd (subst T (sym e) tt)
not_first false b e = (refl, e)

pub plain_small : (u : ℕ) → plain u ≡ true → u ≤ 126
unfolding plain if_lt
plain_small u e =
    let marks = if_eq u 34 false (if_eq u 92 false true) in
    ltb-false 126 u (not_first (ltb 126 u) marks (not_first (ltb u 32) (if_lt 126 u false marks) e).1).0

pub shown_plain : (u : ℕ) → plain u ≡ true → u ∷ [] ≡ shown u
unfolding shown
shown_plain u e = rw e

pub shown_escaped : (u : ℕ) → plain u ≡ false → escaped u ≡ shown u
unfolding shown
shown_escaped u e = rw e

-- the two bytes of a unit, two digits each
pub escaped_is : (u : ℕ)
    → (92 ∷ 117 ∷ []) ++ ((hex_digit (u / 256 / 16) ∷ hex_digit (u / 256 % 16) ∷ []) ++ (hex_digit (u % 256 / 16) ∷ hex_digit (u % 256 % 16) ∷ []))
    ≡ escaped u
unfolding escaped
escaped_is u =
    let a : u / 256 / 16 ≡ u / 4096 = omega arith in
    let b : u % 256 / 16 ≡ u / 16 % 16 = omega arith in
    let d : u % 256 % 16 ≡ u % 16 = omega arith in
    rw (a, b, d)

shown_append : (a b : List ℕ) → all_shown (a ++ b) ≡ all_shown a ++ all_shown b
unfolding all_shown
shown_append [] b = refl
shown_append (u ∷ a) b = ap (λ (x : List ℕ). shown u ++ x) (shown_append a b) ∙ sym (append_assoc (shown u) (all_shown a) (all_shown b))

one_shown : (u : ℕ) → all_shown (u ∷ []) ≡ shown u
unfolding all_shown
one_shown u = append-nil (shown u)

-- one unit more
pub units_more : {l k e : List ℕ} {n m r : ℕ} (us : List ℕ) (i : ℕ) → i < length us → Put (all_shown (take i us)) l n m k
    → Put (shown (get_or us i 0)) k m r e → Put (all_shown (take (i + 1) us)) l n r e
units_more {l} {k} {e} {n} {m} {r} us i h p q =
    let s : suc i ≡ i + 1 = omega arith in
    let u = get_or us i 0 ∷ [] in
    let t : all_shown (take i us) ++ shown (get_or us i 0) ≡ all_shown (take (i + 1) us) =
    ap (λ (x : List ℕ). all_shown (take i us) ++ x) (sym (one_shown (get_or us i 0))) ∙ sym (shown_append (take i us) u)
    ∙ ap all_shown (sym (take-suc us i 0 h) ∙ ap (λ (j : ℕ). take j us) s) in
    subst (λ (x : List ℕ). Put x l n r e) t (put_then p q)
