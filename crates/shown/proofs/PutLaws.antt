-- Bytes put one after the other are those bytes joined.
use Prim.Native.Nat.{ℕ, zero, suc, ◌+◌, ◌/◌, ◌%◌, ◌≤◌, ◌<◌, min}
use mathlib.Core.Path.{◌≡◌, refl, sym, ap, ◌∙◌, subst}
use mathlib.Core.Bool.{Bool, true, false}
use mathlib.Core.List.{List, [], ◌∷◌, ◌++◌, append_assoc}
use native.Mathlib.Omega.{arith}
use lib.Dec.{leb}
use borrow.Author.Tests.{leb-true, leb-false}
use lib.ListN.{length, get_or, take, length-append}
use lib.Seq.{sets, set_out, length-sets, take-suc}
use Rattle.row.proofs.RowLaws.{sets_append}
use Rattle.logic.proofs.ChoiceLaws.{lt_yes, lt_no}
use Rattle.shown.specs.Ascii.{digit, decimal_by}
use Rattle.shown.specs.Output.{Put}

-- what has no room is left out
sets_out : (bs l : List ℕ) (i : ℕ) → length l ≤ i → sets l i bs ≡ l
sets_out [] l i h = refl
sets_out (b ∷ bs) l i h = ap (λ (k : List ℕ). sets k (suc i) bs) (set_out l i b h) ∙ sets_out bs l (suc i) (omega (arith, h))

-- so where the place after the first part is past the output, it may as well be the output's end
sets_from : (a b l : List ℕ) (n m : ℕ) (t : Bool) → leb (n + length a) (length l) ≡ t → m ≡ min (length l) (n + length a)
    → sets (sets l n a) m b ≡ sets (sets l n a) (n + length a) b
sets_from a b l n m true h e = ap (λ (k : ℕ). sets (sets l n a) k b) (omega (arith, e, leb-true (n + length a) (length l) h))
sets_from a b l n m false h e =
    let f = leb-false (n + length a) (length l) h in
    sets_out b (sets l n a) m (omega (arith, e, f, length-sets l n a))
    ∙ sym (sets_out b (sets l n a) (n + length a) (omega (arith, f, length-sets l n a)))

pub put_nothing : (l : List ℕ) (n r : ℕ) → r ≡ min (length l) n → Put [] l n r l
put_nothing l n r e = record { next = omega (arith, e); puts = refl }

pub put_then : {a b l k e : List ℕ} {n m r : ℕ} → Put a l n m k → Put b k m r e → Put (a ++ b) l n r e
put_then {a} {b} {l} {k} {e} {n} {m} {r} p q = record {
  next = omega (arith, p.next, q.next, ap length p.puts ∙ length-sets l n a, length-append a b);
  puts = q.puts ∙ ap (λ (x : List ℕ). sets x m b) p.puts ∙ sets_from a b l n m _ refl p.next ∙ sym (sets_append a b l n);
}

-- the output keeps its length
pub put_size : {bs l e : List ℕ} {n r : ℕ} → Put bs l n r e → length e ≡ length l
put_size {bs} {l} {e} {n} {r} p = ap length p.puts ∙ length-sets l n bs

-- one byte more
pub put_more : {l k e : List ℕ} {n m r : ℕ} (bs : List ℕ) (i : ℕ) → i < length bs → Put (take i bs) l n m k → Put (get_or bs i 0 ∷ []) k m r e
    → Put (take (i + 1) bs) l n r e
put_more {l} {k} {e} {n} {m} {r} bs i h p q =
    let s : suc i ≡ i + 1 = omega arith in
    let t : take i bs ++ (get_or bs i 0 ∷ []) ≡ take (i + 1) bs = sym (take-suc bs i 0 h) ∙ ap (λ (j : ℕ). take j bs) s in
    subst (λ (x : List ℕ). Put x l n r e) t (put_then p q)

-- a number of one digit, of two, and of more
module _ (x most : ℕ) where
  one_digit : x < 10 → digit x ∷ [] ≡ decimal_by (suc most) x
  unfolding decimal_by
  one_digit h = lt_yes x 10 (digit x ∷ []) (decimal_by most (x / 10) ++ (digit (x % 10) ∷ [])) h refl

  last_digit : 10 ≤ x → decimal_by most (x / 10) ++ (digit (x % 10) ∷ []) ≡ decimal_by (suc most) x
  unfolding decimal_by
  last_digit h = lt_no x 10 (digit x ∷ []) (decimal_by most (x / 10) ++ (digit (x % 10) ∷ [])) h refl

two_digits : (x most : ℕ) → 10 ≤ x → x < 100 → digit (x / 10) ∷ digit (x % 10) ∷ [] ≡ decimal_by (suc (suc most)) x
two_digits x most h g = ap (λ (l : List ℕ). l ++ (digit (x % 10) ∷ [])) (one_digit (x / 10) most (omega arith)) ∙ last_digit x (suc most) h

last_two : (x most : ℕ) → 100 ≤ x
    → decimal_by most (x / 100) ++ (digit (x % 100 / 10) ∷ digit (x % 100 % 10) ∷ []) ≡ decimal_by (suc (suc most)) x
last_two x most h =
    let a : x / 100 ≡ x / 10 / 10 = omega arith in
    let b : x % 100 / 10 ≡ x / 10 % 10 = omega arith in
    let c : x % 100 % 10 ≡ x % 10 = omega arith in
    rw (a, b, c) (sym (append_assoc (decimal_by most (x / 10 / 10)) (digit (x / 10 % 10) ∷ []) (digit (x % 10) ∷ [])))
    ∙ ap (λ (l : List ℕ). l ++ (digit (x % 10) ∷ [])) (last_digit (x / 10) most (omega arith)) ∙ last_digit x (suc most) (omega arith)

module _ {l e : List ℕ} {n r : ℕ} where
  pub number_small : (x most : ℕ) → x < most → x < 10 → Put (digit x ∷ []) l n r e → Put (decimal_by most x) l n r e
  number_small x zero h g p = absurd (omega (arith, h))
  number_small x (suc most) h g p = subst (λ (y : List ℕ). Put y l n r e) (one_digit x most g) p

  pub number_pair : (x most : ℕ) → x < most → 10 ≤ x → x < 100 → Put (digit (x / 10) ∷ digit (x % 10) ∷ []) l n r e → Put (decimal_by most x) l n r e
  number_pair x zero h g f p = absurd (omega (arith, h))
  number_pair x (suc zero) h g f p = absurd (omega (arith, h, g))
  number_pair x (suc (suc most)) h g f p = subst (λ (y : List ℕ). Put y l n r e) (two_digits x most g f) p

  pub number_more : {k : List ℕ} {m : ℕ} (x most : ℕ) → x < most → 100 ≤ x → ((j : ℕ) → x / 100 < j → Put (decimal_by j (x / 100)) l n m k)
      → Put (digit (x % 100 / 10) ∷ digit (x % 100 % 10) ∷ []) k m r e → Put (decimal_by most x) l n r e
  number_more x zero h g p q = absurd (omega (arith, h))
  number_more x (suc zero) h g p q = absurd (omega (arith, h, g))
  number_more x (suc (suc most)) h g p q =
      subst (λ (y : List ℕ). Put y l n r e) (last_two x most g) (put_then (p most (omega (arith, h, g))) q)

-- the next place is the output's end at most
pub put_inside : {bs l e : List ℕ} {n r : ℕ} → Put bs l n r e → r ≤ length e
put_inside {bs} {l} {e} {n} {r} p = omega (arith, p.next, put_size p)
