-- A step of the table is so many moves of the tree.
use mathlib.Core.Path.{◌≡◌, refl, ap, ◌∙◌}
use mathlib.Core.Bool.{Bool, true, false}
use mathlib.Core.List.{List}
use Prim.Native.Nat.{ℕ, zero, suc, ◌+◌, ◌*◌, ◌-◌, ◌/◌, ◌%◌, ◌^◌, ◌<◌, ◌≤◌}
use native.Mathlib.Nat.{add-zero, zero-add}
use native.Mathlib.Omega.{arith}
use lib.Dec.{leb}
use lib.ListN.{length, get_or, length-append, get_or-append, get_or-eq_default}
use lib.Seq.{get_or-append-add}
use borrow.Author.Tests.{le-leb, lt-leb, leb-true, leb-false}
use Rattle.annex_c.specs.Tree.{tree, child}
use Rattle.steps.specs.Steps.{entry_from, steps_of_tree, steps_from, step_table}
use Rattle.steps.specs.Reaches.{Reached, Stepping}
use Rattle.steps.proofs.WalkLaws.{walk_early, walk_leaf, walk_node}

-- one bit of an entry
abbrev by_leaf : List ℕ → ℕ → ℕ → ℕ → Bool → ℕ
by_leaf u w k v = elim [ true ↦ 16 * v + (4 - k) | false ↦ entry_from u w k v ]

entry_bit : (u : List ℕ) (w k n : ℕ) → entry_from u w (suc k) n ≡ by_leaf u w k (child u n (w / 2 ^ k % 2)) (leb 128 (child u n (w / 2 ^ k % 2)))
unfolding entry_from
entry_bit u w k n = refl

pub entry_end : (u : List ℕ) (w n : ℕ) → entry_from u w 0 n ≡ 16 * n + 4
unfolding entry_from
entry_end u w n = refl

module _ (u : List ℕ) (w k n v : ℕ) (e : v ≡ child u n (w / 2 ^ k % 2)) where
  pub entry_leaf : 128 ≤ v → entry_from u w (suc k) n ≡ 16 * v + (4 - k)
  entry_leaf l = rw (entry_bit, ← e, le-leb 128 v l)

  pub entry_node : v < 128 → entry_from u w (suc k) n ≡ entry_from u w k v
  entry_node l = rw (entry_bit, ← e, lt-leb 128 v l)

-- the four bits w are those from i on, and 0 past the end
abbrev pub Four : List ℕ → ℕ → ℕ → Type 0
Four bs i w = (j : ℕ) → j < 4 → w / 2 ^ (3 - j) % 2 ≡ get_or bs (i + j) 0

module _ (u bs : List ℕ) (i w : ℕ) (four : Four bs i w) where
  reached_end : (n : ℕ) → n < 128 → Reached u bs n (i + (4 - 0)) ((16 * n + 4) / 16) (i + (16 * n + 4) % 16)
  reached_end n l =
      let e : (16 * n + 4) / 16 ≡ n = omega arith in
      let f : (16 * n + 4) % 16 ≡ 4 = omega arith in
      record { leaf = λ a b. absurd (omega arith); over = λ a b. absurd (omega arith); node = λ a. rw (e, f) }

  reached_leaf : (k n v : ℕ) → k < 4 → 128 ≤ v → v ≡ child u n (get_or bs (i + (3 - k)) 0)
      → Reached u bs n (i + (4 - suc k)) ((16 * v + (4 - k)) / 16) (i + (16 * v + (4 - k)) % 16)
  reached_leaf k n v h l q =
      let e : (16 * v + (4 - k)) / 16 ≡ v = omega arith in
      let f : i + (16 * v + (4 - k)) % 16 ≡ i + (3 - k) + 1 = omega arith in
      let g : i + (4 - suc k) ≡ i + (3 - k) = omega arith in
      rw (e, f, g) (record {
        leaf = λ a b. walk_leaf u bs n (i + (3 - k)) v q (omega arith) l;
        over = λ a b. walk_early u bs n (i + (3 - k)) (omega arith);
        node = λ a. absurd (omega arith);
      })

  reached_node : (k n v x : ℕ) → k < 4 → v < 128 → v ≡ child u n (get_or bs (i + (3 - k)) 0)
      → Reached u bs v (i + (4 - k)) (x / 16) (i + x % 16) → Reached u bs n (i + (4 - suc k)) (x / 16) (i + x % 16)
  reached_node k n v x h l q r =
      let g : i + (4 - suc k) ≡ i + (3 - k) = omega arith in
      let f : i + (4 - k) ≡ i + (3 - k) + 1 = omega arith in
      let m = rw (← f) at (walk_node u bs n (i + (3 - k)) v q l) in
      rw g (record {
        leaf = λ a b. m ∙ r.leaf a b;
        over = λ a b. m ∙ r.over a b;
        node = λ a. m ∙ r.node a;
      })

  child_four : (k n : ℕ) → k < 4 → child u n (w / 2 ^ k % 2) ≡ child u n (get_or bs (i + (3 - k)) 0)
  child_four k n h =
      let e : 3 - (3 - k) ≡ k = omega arith in
      ap (child u n) (rw e at (four (3 - k) (omega arith)))

  abbrev next : ℕ → ℕ → ℕ
  next k n = child u n (w / 2 ^ k % 2)

  reached_by : (k n : ℕ) → k < 4
      → (next k n < 128 → Reached u bs (next k n) (i + (4 - k)) (entry_from u w k (next k n) / 16) (i + entry_from u w k (next k n) % 16))
      → (x : Bool) → leb 128 (next k n) ≡ x
      → Reached u bs n (i + (4 - suc k)) (entry_from u w (suc k) n / 16) (i + entry_from u w (suc k) n % 16)
  reached_by k n h r true q =
      let m = leb-true 128 (next k n) q in
      rw (entry_leaf u w k n (next k n) refl m) (reached_leaf k n (next k n) h m (child_four k n h))
  reached_by k n h r false q =
      let m = leb-false 128 (next k n) q in
      rw (entry_node u w k n (next k n) refl m)
      (reached_node k n (next k n) (entry_from u w k (next k n)) h m (child_four k n h) (r m))

  reached_from : (k n : ℕ) → k ≤ 4 → n < 128 → Reached u bs n (i + (4 - k)) (entry_from u w k n / 16) (i + entry_from u w k n % 16)
  reached_from zero n h l = rw (entry_end u w n) (reached_end n l)
  reached_from (suc k) n h l =
      reached_by k n (omega arith) (λ m. reached_from k (next k n) (omega arith) m) (leb 128 (next k n)) refl

-- a leaf takes a bit or more
module _ (u : List ℕ) (w : ℕ) where
  used_by : (k n : ℕ) → k < 4 → (4 - (k - 1) ≤ entry_from u w k (child u n (w / 2 ^ k % 2)) % 16) → (x : Bool)
      → leb 128 (child u n (w / 2 ^ k % 2)) ≡ x → 4 - k ≤ entry_from u w (suc k) n % 16
  used_by k n h r true q =
      rw (entry_leaf u w k n (child u n (w / 2 ^ k % 2)) refl (leb-true 128 (child u n (w / 2 ^ k % 2)) q)) (omega arith)
  used_by k n h r false q =
      rw (entry_node u w k n (child u n (w / 2 ^ k % 2)) refl (leb-false 128 (child u n (w / 2 ^ k % 2)) q)) (omega arith)

  used : (k n : ℕ) → k ≤ 4 → 4 - (k - 1) ≤ entry_from u w k n % 16
  used zero n h = rw (entry_end u w n) (omega arith)
  used (suc k) n h =
      let r = used_by k n (omega arith) (used k (child u n (w / 2 ^ k % 2)) (omega arith)) (leb 128 (child u n (w / 2 ^ k % 2))) refl in
      omega arith

-- ---- the entries one by one
length_entries : (u : List ℕ) (m w : ℕ) → length (steps_of_tree u m w) ≡ m
unfolding steps_of_tree
length_entries u zero w = refl
length_entries u (suc m) w = ap suc (length_entries u m (w + 1))

entry_at : (u : List ℕ) (m w j : ℕ) → j < m → get_or (steps_of_tree u m w) j 0 ≡ entry_from u (w + j) 4 0
unfolding steps_of_tree
entry_at u zero w j l = absurd (omega arith)
entry_at u (suc m) w zero l = rw add-zero
entry_at u (suc m) w (suc j) l =
    let e : w + suc j ≡ w + 1 + j = omega arith in
    rw e (entry_at u m (w + 1) j (omega arith))

step_at : (t : List ℕ) (m p q w : ℕ) → q < m → w < 16 → get_or (steps_from t m p) (16 * q + w) 0 ≡ entry_from (tree t (p + q)) w 4 0
unfolding steps_from
step_at t zero p q w l h = absurd (omega arith)
step_at t (suc m) p zero w l h =
    let u = tree t p in
    let b : w < length (steps_of_tree (tree t p) 16 0) = omega (arith, length_entries (tree t p) 16 0) in
    rw (add-zero, zero-add) (get_or-append (steps_of_tree u 16 0) (steps_from t m (p + 1)) 0 w b ∙ entry_at u 16 0 w h ∙ rw zero-add)
step_at t (suc m) p (suc q) w l h =
    let u = tree t p in
    let e : 16 * suc q + w ≡ length (steps_of_tree (tree t p) 16 0) + (16 * q + w) = omega (arith, length_entries (tree t p) 16 0) in
    let f : p + suc q ≡ p + 1 + q = omega arith in
    rw (e, f) (get_or-append-add (steps_of_tree u 16 0) (steps_from t m (p + 1)) (16 * q + w) 0 ∙ step_at t m (p + 1) q w (omega arith) h)

-- past the last one
length_steps : (t : List ℕ) (m p : ℕ) → length (steps_from t m p) ≡ 16 * m
unfolding steps_from
length_steps t zero p = refl
length_steps t (suc m) p =
    length-append (steps_of_tree (tree t p) 16 0) (steps_from t m (p + 1)) ∙ omega (arith, length_entries (tree t p) 16 0, length_steps t m (p + 1))

-- THE law: an entry is where its four bits lead from the root
pub stepping : (t bs : List ℕ) (p i w e : ℕ) → w < 16 → Four bs i w → e ≡ get_or (step_table t) (16 * p + w) 0 → e < 4096
    → Stepping (tree t p) bs i e
unfolding step_table
stepping t bs p i w e small four q low = by (leb 128 p) refl
  where
    by : (x : Bool) → leb 128 p ≡ x → Stepping (tree t p) bs i e
    by true z =
        let h = leb-true 128 p z in
        let d : e ≡ 0 = q ∙ get_or-eq_default (steps_from t 128 0) 0 (omega (arith, length_steps t 128 0)) in
        rw d (record {
          reach = record { leaf = λ a b. absurd (omega arith); over = λ a b. absurd (omega arith); node = λ a. rw add-zero };
          low = omega arith;
          onward = λ a. absurd (omega arith);
        })
    by false z =
        let d : e ≡ entry_from (tree t p) w 4 0 = q ∙ step_at t 128 0 p w (leb-false 128 p z) small ∙ rw zero-add in
        record {
          reach = rw d (rw add-zero at (reached_from (tree t p) bs i w four 4 0 (omega arith) (omega arith)));
          low = low;
          onward = λ a. rw d (omega (arith, used (tree t p) w 4 0 (omega arith)));
        }
