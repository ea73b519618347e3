-- Laws of `all`, `any`, `first`, `sum` and `each`: one set for every loop.
use Prim.Native.Nat.{◌+◌, ◌<◌, ◌≤◌, suc, zero, ℕ}
use mathlib.Core.Path.{◌∙◌, ◌≡◌, ap, ap₂, refl, sym}
use mathlib.Core.Bool.{Bool, false, not, true}
use mathlib.Core.List.{List}
use mathlib.Core.Logic.{◌⊎◌, inl, inr, ⊎_elim}
use native.Mathlib.Numerals.{add-one}
use native.Mathlib.Omega.{arith}
use lib.Dec.{eqb, leb, ltb}
use lib.ListN.{get_or, length, length-set, set}
use lib.Seq.{get_or-set_other, get_or-set_same}
use borrow.Author.Tests.{eq-eqb, eqb-false, eqb-true, le-leb, le-ltb, lt-leb, lt-ltb, ltb-false, ltb-true, ne_eqb}
use Rattle.logic.specs.Choices.{pick}
use Rattle.logic.specs.Loops.{◌&◌, ◌⇒◌, all, any, first, sum}
use Rattle.logic.specs.Inner.{each, equal_bool}

-- ---- truth values
pub both : (b : Bool) → (b ≡ true) ⊎ (b ≡ false)
both true = inl refl
both false = inr refl

pub true_false : {A : Type 0} (b : Bool) → b ≡ true → b ≡ false → A
true_false b t f = let z : ◌≡◌ {A = ℕ} 0 1 = cc in absurd (omega arith)

-- what is not true is false
pub isnt : (b : Bool) → (b ≡ true → ⊥) → b ≡ false
isnt true h = absurd (h refl)
isnt false h = refl

-- two tests that hold together are one
pub same_truth : (a b : Bool) → (a ≡ true → b ≡ true) → (b ≡ true → a ≡ true) → a ≡ b
same_truth true b f g = sym (f refl)
same_truth false true f g = g refl
same_truth false false f g = refl

pub not_i : (b : Bool) → b ≡ false → not b ≡ true
not_i b e = ap not e

pub not_e : (b : Bool) → not b ≡ true → b ≡ false
not_e true e = sym e
not_e false e = refl

pub and_left : (a b : Bool) → (a & b) ≡ true → a ≡ true
unfolding ◌&◌
and_left true b e = refl
and_left false b e = e

pub and_right : (a b : Bool) → (a & b) ≡ true → b ≡ true
unfolding ◌&◌
and_right true b e = e
and_right false b e = true_false false e refl

pub from_equal : (a b : Bool) → equal_bool a b ≡ true → a ≡ b
unfolding equal_bool
from_equal true b e = sym e
from_equal false true e = cc
from_equal false false e = refl

pub and_i : (a b : Bool) → a ≡ true → b ≡ true → (a & b) ≡ true
unfolding ◌&◌
and_i true b e f = f
and_i false b e f = e

pub and_no_left : (a b : Bool) → a ≡ false → (a & b) ≡ false
and_no_left a b f = isnt (a & b) (λ e. true_false a (and_left a b e) f)

pub and_no_right : (a b : Bool) → b ≡ false → (a & b) ≡ false
and_no_right a b f = isnt (a & b) (λ e. true_false b (and_right a b e) f)

pub if_then : (a b : Bool) → (a ⇒ b) ≡ true → a ≡ true → b ≡ true
unfolding ◌⇒◌
if_then true b e h = e
if_then false b e h = true_false false h refl

pub if_i : (a b : Bool) → (a ≡ true → b ≡ true) → (a ⇒ b) ≡ true
unfolding ◌⇒◌
if_i true b h = h refl
if_i false b h = refl

-- ---- numbers
pub same_or_not : (i j : ℕ) → (i ≡ j) ⊎ (i ≡ j → ⊥)
same_or_not i j = ⊎_elim (λ e. inl (eqb-true i j e)) (λ e. inr (eqb-false i j e)) (both (eqb i j))

pub below_suc : (k n : ℕ) → k < suc n → (k < n) ⊎ (k ≡ n)
below_suc k n h = ⊎_elim (λ e. inl (ltb-true k n e)) (λ e. inr (omega (arith, ltb-false k n e))) (both (ltb k n))

-- two numbers are one where neither is below the other
pub neither_below : (i j : ℕ) → (i < j → ⊥) → (j < i → ⊥) → i ≡ j
neither_below i j f g =
    ⊎_elim (λ c. absurd (f (ltb-true i j c)))
    (λ c. ⊎_elim (λ d. absurd (g (ltb-true j i d))) (λ d. omega (arith, ltb-false i j c, ltb-false j i d)) (both (ltb j i)))
    (both (ltb i j))

-- ---- all
module _ (f : ℕ → Bool) where
  pub all_at : (n : ℕ) → all n f ≡ true → (k : ℕ) → k < n → f k ≡ true
  unfolding all
  all_at zero a k h = absurd (omega arith)
  all_at (suc n) a k h =
      ⊎_elim (λ l. all_at n (and_left (all n f) (f n) a) k l) (λ e. rw e (and_right (all n f) (f n) a)) (below_suc k n h)

  pub all_i : (n : ℕ) → ((k : ℕ) → k < n → f k ≡ true) → all n f ≡ true
  unfolding all
  all_i zero h = refl
  all_i (suc n) h = and_i (all n f) (f n) (all_i n (λ k l. h k (omega arith))) (h n (omega arith))

  pub all_fails : (n k : ℕ) → k < n → f k ≡ false → all n f ≡ false
  all_fails n k h e = isnt (all n f) (λ a. true_false (f k) (all_at n a k h) e)

-- ---- any
module _ (p : ℕ → Bool) where
  pub any_at : (n k : ℕ) → k < n → p k ≡ true → any n p ≡ true
  unfolding any
  any_at zero k h e = absurd (omega arith)
  any_at (suc n) k h e = ⊎_elim
      (λ l. ⊎_elim (λ t. rw t) (λ t. rw t (any_at n k l e)) (both (p n)))
      (λ q. let t : p n ≡ true = rw q at e in rw t)
      (below_suc k n h)

  pub any_none : (n : ℕ) → ((k : ℕ) → k < n → p k ≡ false) → any n p ≡ false
  unfolding any
  any_none zero h = refl
  any_none (suc n) h = rw (h n (omega arith)) (any_none n (λ k l. h k (omega arith)))

  pub none_at : (n : ℕ) → any n p ≡ false → (k : ℕ) → k < n → p k ≡ false
  none_at n e k l = isnt (p k) (λ t. true_false (any n p) (any_at n k l t) e)

  -- one more
  pub any_more : (n : ℕ) → any (n + 1) p ≡ pick (p n) true (any n p)
  unfolding any
  any_more n = rw add-one refl

-- ---- first
module _ (p : ℕ → Bool) where
  pub first_none : (n : ℕ) → ((k : ℕ) → k < n → p k ≡ false) → first n p ≡ n
  unfolding first
  first_none zero h = refl
  first_none (suc n) h =
      rw (first_none n (λ k l. h k (omega arith)))
      (rw (le-ltb n n (omega arith)) (rw (h n (omega arith))))

  pub first_at : (n i : ℕ) → i < n → ((k : ℕ) → k < i → p k ≡ false) → p i ≡ true → first n p ≡ i
  unfolding first
  first_at zero i l h e = absurd (omega arith)
  first_at (suc n) i l h e =
      ⊎_elim
      (λ l'. let r : first n p ≡ i = first_at n i l' h e in rw (r, lt-ltb i n l'))
      (λ q. let r : first n p ≡ n = first_none n (λ k l'. h k (omega arith)) in
      let e' : p n ≡ true = rw q at e in
      rw (r, le-ltb n n (omega arith), e') (sym q))
      (below_suc i n l)

  -- the first is below n and has p, or none has
  pub first_split : (n : ℕ)
      → ((first n p < n) × (p (first n p) ≡ true)) ⊎ ((first n p ≡ n) × ((k : ℕ) → k < n → p k ≡ false))
  unfolding first
  first_split zero = inr (refl, λ k h. absurd (omega arith))
  first_split (suc n) =
      ⊎_elim
      (λ w. inl (rw (lt-ltb (first n p) n w.0) (omega (arith, w.0)), rw (lt-ltb (first n p) n w.0) w.1))
      (λ w. ⊎_elim
      (λ e. inl (rw (w.0, le-ltb n n (omega arith), e) (omega arith), rw (w.0, le-ltb n n (omega arith), e) e))
      (λ e. inr (rw (w.0, le-ltb n n (omega arith), e) refl, λ k h. ⊎_elim (λ l. w.1 k l) (λ q. rw q e) (below_suc k n h)))
      (both (p n)))
      (first_split n)

  pub first_has : (n : ℕ) → first n p < n → p (first n p) ≡ true
  first_has n l = ⊎_elim (λ w. w.1) (λ w. absurd (omega (arith, w.0))) (first_split n)

  pub any_first : (n : ℕ) → any n p ≡ ltb (first n p) n
  any_first n = ⊎_elim
      (λ w. any_at p n (first n p) w.0 w.1 ∙ sym (lt-ltb (first n p) n w.0))
      (λ w. any_none p n w.1 ∙ sym (le-ltb (first n p) n (omega (arith, w.0))))
      (first_split n)

  -- a search that found one, and one that found none
  pub any_yes : (n : ℕ) {w : ℕ} → w ≡ first n p → w < n → any n p ≡ true
  any_yes n e l = any_first n ∙ lt-ltb (first n p) n (omega (arith, e, l))

  pub any_no : (n : ℕ) {w : ℕ} → w ≡ first n p → n ≤ w → any n p ≡ false
  any_no n e l = any_first n ∙ le-ltb (first n p) n (omega (arith, e, l))

  pub not_any_first : (n : ℕ) → eqb (first n p) n ≡ not (any n p)
  not_any_first n = ⊎_elim
      (λ w. ne_eqb (first n p) n (λ e. omega (arith, w.0, e)) ∙ sym (ap not (any_at p n (first n p) w.0 w.1)))
      (λ w. eq-eqb (first n p) n w.0 ∙ sym (ap not (any_none p n w.1)))
      (first_split n)

-- first sees only the values below the bound
pub first_cong : (n : ℕ) (p q : ℕ → Bool) → ((k : ℕ) → k < n → p k ≡ q k) → first n p ≡ first n q
unfolding first
first_cong zero p q h = refl
first_cong (suc n) p q h =
    let e = first_cong n p q (λ k l. h k (omega arith)) in
    ap₂ (λ (a : ℕ) (b : Bool). pick (ltb a n) a (pick b n (suc n))) e (h n (omega arith))

-- ---- sum
module _ (f : ℕ → ℕ) where
  pub sum_none : sum 0 f ≡ 0
  unfolding sum
  sum_none = refl

  pub sum_more : (i : ℕ) → sum (i + 1) f ≡ sum i f + f i
  unfolding sum
  sum_more i = rw add-one refl

  pub sum_grows : (n i : ℕ) → i ≤ n → sum i f ≤ sum n f
  unfolding sum
  sum_grows zero i h = let e : i ≡ 0 = omega arith in rw e (omega arith)
  sum_grows (suc n) i h = ⊎_elim
      (λ (l : ltb i (suc n) ≡ true). let g : sum i f ≤ sum n f = sum_grows n i (omega (arith, ltb-true i (suc n) l)) in omega (arith, g))
      (λ (l : ltb i (suc n) ≡ false). let e : i ≡ suc n = omega (arith, ltb-false i (suc n) l, h) in omega (arith, ap (λ (k : ℕ). sum k f) e))
      (both (ltb i (suc n)))

-- ---- the first n elements of a list changed by f
module _ {A : Type 0} (f : A → A) (d : A) where
  pub each_more : (n : ℕ) (l : List A) → set (each n f d l) n (f (get_or (each n f d l) n d)) ≡ each (n + 1) f d l
  unfolding each
  each_more n l = rw add-one refl

  pub length_each : (n : ℕ) (l : List A) → length (each n f d l) ≡ length l
  unfolding each
  length_each zero l = refl
  length_each (suc n) l = length-set (each n f d l) n (f (get_or (each n f d l) n d)) ∙ length_each n l

  pub each_past : (n : ℕ) (l : List A) (k : ℕ) → n ≤ k → get_or (each n f d l) k d ≡ get_or l k d
  unfolding each
  each_past zero l k h = refl
  each_past (suc n) l k h = get_or-set_other (each n f d l) n k (f (get_or (each n f d l) n d)) d (λ e. omega (arith, e)) ∙ each_past n l k (omega arith)

  pub each_at : (n : ℕ) (l : List A) (k : ℕ) → k < n → n ≤ length l → get_or (each n f d l) k d ≡ f (get_or l k d)
  unfolding each
  each_at zero l k h b = absurd (omega arith)
  each_at (suc n) l k h b =
      ⊎_elim
      (λ m. get_or-set_other (each n f d l) n k (f (get_or (each n f d l) n d)) d (λ e. omega (arith, e)) ∙ each_at n l k m (omega arith))
      (λ e. rw e (get_or-set_same (each n f d l) n (f (get_or (each n f d l) n d)) d (omega (arith, length_each n l)) ∙ ap f (each_past n l n (omega arith))))
      (below_suc k n h)

-- ---- what a loop's `return` leaves
-- a loop that counted to the end
pub at_end : {A : Type 0} (f : ℕ → A) {x : A} {i n : ℕ} → i ≤ n → n ≤ i → x ≡ f i → x ≡ f n
at_end f {x} {i} {n} h l e = let q : i ≡ n = omega arith in e ∙ ap f q

-- a loop over all that ended, by what was met
pub all_met : (f : ℕ → Bool) (n i : ℕ) → n ≤ i → ((j : ℕ) → j < i → f j ≡ true) → true ≡ all n f
all_met f n i l h = sym (all_i f n (λ k a. h k (omega arith)))

pub is_leb : (a b : ℕ) → a ≤ b → true ≡ leb a b
is_leb a b h = sym (le-leb a b h)

pub no_leb : (a b : ℕ) → b < a → false ≡ leb a b
no_leb a b h = sym (lt-leb a b h)
