-- Counting below a bound: sums compared, a count sorted by a number, and the pigeonhole.
use Prim.Native.Nat.{◌+◌, ◌<◌, ◌≤◌, suc, zero, ℕ}
use mathlib.Core.Path.{◌∙◌, ◌≡◌, ap, refl, sym}
use mathlib.Core.Bool.{Bool, false, not, true}
use mathlib.Core.Logic.{⊎_elim}
use native.Mathlib.Omega.{arith}
use lib.Dec.{eqb}
use borrow.Author.Tests.{eq-eqb, eqb-true, ne_eqb, not-false}
use Rattle.logic.proofs.LoopLaws.{and_left, and_right, any_at, any_none, below_suc, both, first_split, isnt, sum_grows, sum_more}
use Rattle.logic.specs.Loops.{◌&◌, any, count, first, one, sum}

-- ---- sums
pub sum_le : (n : ℕ) (f g : ℕ → ℕ) → ((k : ℕ) → k < n → f k ≤ g k) → sum n f ≤ sum n g
unfolding sum
sum_le zero f g h = omega arith
sum_le (suc n) f g h = omega (arith, sum_le n f g (λ k l. h k (omega arith)), h n (omega arith))

pub sum_lt : (n : ℕ) (f g : ℕ → ℕ) → ((k : ℕ) → k < n → f k ≤ g k) → (j : ℕ) → j < n → f j < g j → sum n f < sum n g
unfolding sum
sum_lt zero f g h j l e = absurd (omega arith)
sum_lt (suc n) f g h j l e =
    ⊎_elim
    (λ l'. omega (arith, sum_lt n f g (λ k m. h k (omega arith)) j l' e, h n (omega arith)))
    (λ q. let e' : f n < g n = rw q at e in omega (arith, sum_le n f g (λ k m. h k (omega arith)), e'))
    (below_suc j n l)

sum_add : (n : ℕ) (f g : ℕ → ℕ) → sum n (λ k. f k + g k) ≡ sum n f + sum n g
unfolding sum
sum_add zero f g = refl
sum_add (suc n) f g = omega (arith, sum_add n f g)

pub sum_zero : (n : ℕ) → sum n (λ _. 0) ≡ 0
unfolding sum
sum_zero zero = refl
sum_zero (suc n) = omega (arith, sum_zero n)

sum_one : (n : ℕ) → sum n (λ _. 1) ≡ n
unfolding sum
sum_one zero = refl
sum_one (suc n) = omega (arith, sum_one n)

pub sum_cong : (n : ℕ) (f g : ℕ → ℕ) → ((k : ℕ) → k < n → f k ≡ g k) → sum n f ≡ sum n g
unfolding sum
sum_cong zero f g h = refl
sum_cong (suc n) f g h = omega (arith, sum_cong n f g (λ k l. h k (omega arith)), h n (omega arith))

-- two sums that differ at one number
pub sum_at : (n : ℕ) (f g : ℕ → ℕ) (j : ℕ) → j < n → ((k : ℕ) → (k ≡ j → ⊥) → f k ≡ g k) → sum n f + g j ≡ sum n g + f j
unfolding sum
sum_at zero f g j l h = absurd (omega arith)
sum_at (suc n) f g j l h = ⊎_elim
    (λ e. omega (arith, sum_at n f g j e h, h n (λ q. omega (arith, q, e))))
    (λ q. omega (arith, sum_cong n f g (λ k a. h k (λ x. omega (arith, x, a, q))), ap f q, ap g q))
    (below_suc j n l)

-- ---- counts
pub count_none : (n : ℕ) (p : ℕ → Bool) → ((k : ℕ) → k < n → p k ≡ false) → count n p ≡ 0
count_none n p h = sum_cong n (λ i. one (p i)) (λ _. 0) (λ k l. ap one (h k l)) ∙ sum_zero n

count_all : (n : ℕ) (p : ℕ → Bool) → ((k : ℕ) → k < n → p k ≡ true) → count n p ≡ n
count_all n p h = sum_cong n (λ i. one (p i)) (λ _. 1) (λ k l. ap one (h k l)) ∙ sum_one n

pub count_upto : (n : ℕ) (p : ℕ → Bool) → count n p ≤ n
count_upto n p = omega (arith, sum_one n, sum_le n (λ i. one (p i)) (λ _. 1) (λ k _. small (p k)))
  where
    small : (b : Bool) → one b ≤ 1
    small true = omega arith
    small false = omega arith

-- one that has it is counted
pub count_some : (n : ℕ) (p : ℕ → Bool) (k : ℕ) → k < n → p k ≡ true → 0 < count n p
count_some n p k l e = let f : ℕ → ℕ = λ i. one (p i) in
    omega (arith, ap one e, sum_more f k, sum_grows f n (k + 1) (omega arith))

-- no two have it: the count is at most 1
pub count_once : (n : ℕ) (p : ℕ → Bool) → ((i j : ℕ) → i < j → j < n → p i ≡ true → p j ≡ true → ⊥) → count n p ≤ 1
unfolding sum
count_once zero p h = omega arith
count_once (suc n) p h =
    ⊎_elim
    (λ e. let z : count n p ≡ 0 = count_none n p (λ k l. isnt (p k) (λ t. h k n l (omega arith) t e)) in
    omega (arith, z, ap one e))
    (λ e. omega (arith, count_once n p (λ i j l m. h i j l (omega arith)), ap one e))
    (both (p n))

-- a count of at most 1 is the number of "some"
pub count_any : (n : ℕ) (p : ℕ → Bool) → count n p ≤ 1 → count n p ≡ one (any n p)
count_any n p h = ⊎_elim
    (λ w. omega (arith, count_some n p (first n p) w.0 w.1, ap one (any_at p n (first n p) w.0 w.1)))
    (λ w. omega (arith, count_none n p w.1, ap one (any_none p n w.1)))
    (first_split p n)

-- where some lack it, there is one that lacks it
pub count_gap : (n : ℕ) (p : ℕ → Bool) → count n p < n → first n (λ i. not (p i)) < n
count_gap n p h = ⊎_elim (λ w. w.0)
    (λ w. absurd (omega (arith, count_all n p (λ k l. not-false (p k) (w.1 k l)))))
    (first_split (λ i. not (p i)) n)

-- ---- a count sorted by a number
one_of : (q c : ℕ) → c < q → sum q (λ v. one (eqb c v)) ≡ 1
unfolding sum
one_of zero c h = absurd (omega arith)
one_of (suc q) c h =
    ⊎_elim
    (λ l. omega (arith, one_of q c l, ap one (ne_eqb c q (λ e. omega (arith, e)))))
    (λ e. omega (arith, ap one (eq-eqb c q e), count_none q (λ v. eqb c v) (λ k l. ne_eqb c k (λ e'. omega (arith, e, e')))))
    (below_suc c q h)

one_and : (b : Bool) (q c : ℕ) → (b ≡ true → c < q) → sum q (λ v. one (b & eqb c v)) ≡ one b
unfolding ◌&◌
one_and true q c h = one_of q c (h refl)
one_and false q c h = sum_zero q

-- those that have p, by their number below q
pub count_by : (n q : ℕ) (p : ℕ → Bool) (c : ℕ → ℕ) → ((i : ℕ) → i < n → p i ≡ true → c i < q)
    → count n p ≡ sum q (λ v. count n (λ i. p i & eqb (c i) v))
unfolding sum
count_by zero q p c h = sym (sum_zero q)
count_by (suc n) q p c h =
    let r = sum_add q (λ v. count n (λ i. p i & eqb (c i) v)) (λ v. one (p n & eqb (c n) v)) in
    omega (arith, r, count_by n q p c (λ i l. h i (omega arith)), one_and (p n) q (c n) (h n (omega arith)))

-- things with different numbers below q
pub record Sorted (n q : ℕ) (p : ℕ → Bool) (c : ℕ → ℕ) : Type 0 where
  pub small : (i : ℕ) → i < n → p i ≡ true → c i < q
  pub apart : (i j : ℕ) → i < j → j < n → p i ≡ true → p j ≡ true → c i ≡ c j → ⊥

module _ (n q : ℕ) (p : ℕ → Bool) (c : ℕ → ℕ) (h : Sorted n q p c) where
  each_once : (v : ℕ) → v < q → count n (λ i. p i & eqb (c i) v) ≤ 1
  each_once v l = count_once n (λ i. p i & eqb (c i) v)
      (λ i j a b s t. h.apart i j a b (and_left _ _ s) (and_left _ _ t)
      (eqb-true _ _ (and_right _ _ s) ∙ sym (eqb-true _ _ (and_right _ _ t))))

  -- they are as many as the numbers that occur
  pub numbers : count n p ≡ count q (λ v. any n (λ i. p i & eqb (c i) v))
  numbers = count_by n q p c h.small
      ∙ sum_cong q (λ v. count n (λ i. p i & eqb (c i) v)) (λ v. one (any n (λ i. p i & eqb (c i) v)))
      (λ v l. count_any n (λ i. p i & eqb (c i) v) (each_once v l))

  -- so at most q, and fewer where a number is missing
  pub pigeon : count n p ≤ q
  pigeon = omega (arith, numbers, count_upto q (λ v. any n (λ i. p i & eqb (c i) v)))

  pub pigeon_gap : (v : ℕ) → v < q → ((i : ℕ) → i < n → (p i & eqb (c i) v) ≡ false) → count n p < q
  pigeon_gap v l lacks =
      omega (
        arith,
        count_by n q p c h.small,
        sum_one q,
        sum_lt q (λ v. count n (λ i. p i & eqb (c i) v)) (λ _. 1) each_once v l
            (let z : count n (λ i. p i & eqb (c i) v) ≡ 0 = count_none n (λ i. p i & eqb (c i) v) lacks in omega (arith, z)),
      )
