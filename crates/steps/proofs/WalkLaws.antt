-- A walk of a decode tree, bit by bit.
use mathlib.Core.Path.{◌≡◌, refl, sym, ap₂, ◌∙◌}
use mathlib.Core.Bool.{Bool, true, false}
use mathlib.Core.List.{List, ◌∷◌}
use Prim.Native.Nat.{ℕ, ◌+◌, ◌*◌, ◌-◌, ◌<◌, ◌≤◌}
use native.Mathlib.Numerals.{add-one}
use native.Mathlib.Omega.{arith}
use lib.Dec.{leb}
use lib.ListN.{length, get_or, drop, drop_of_length-le}
use lib.Seq.{get_or-drop, drop-cons}
use borrow.Author.Tests.{le-leb, lt-leb, leb-true, leb-false}
use Rattle.annex_c.specs.Codes.{Reading, symbol, early}
use Rattle.annex_c.specs.Tree.{root, tree, child, walk}

-- the byte of a node, where it lies in the table
pub child_at : (t : List ℕ) (p n base b x v : ℕ) → base ≡ root t p → b ≡ x → v ≡ get_or t (base + (2 * n + b)) 0 → v ≡ child (tree t p) n x
unfolding child tree
child_at t p n base b x v e q w = w ∙ ap₂ (λ (i j : ℕ). get_or t (i + (2 * n + j)) 0) e q ∙ rw get_or-drop

pub head : (bs : List ℕ) (i : ℕ) → i < length bs → drop i bs ≡ get_or bs i 0 ∷ drop (i + 1) bs
head bs i h = rw (add-one, drop-cons bs i 0)

pub walk_early : (u bs : List ℕ) (n i : ℕ) → length bs ≤ i → walk u n (drop i bs) ≡ early
unfolding walk
walk_early u bs n i h = rw (drop_of_length-le bs h)

abbrev by_byte : List ℕ → ℕ → List ℕ → Bool → Reading
by_byte u v bs = elim [ true ↦ symbol (v - 128) bs | false ↦ walk u v bs ]

walk_bit : (u bs : List ℕ) (n b : ℕ) → walk u n (b ∷ bs) ≡ by_byte u (child u n b) bs (leb 128 (child u n b))
unfolding walk
walk_bit u bs n b = refl

module _ (u bs : List ℕ) (n i v : ℕ) (e : v ≡ child u n (get_or bs i 0)) where
  pub walk_leaf : i < length bs → 128 ≤ v → walk u n (drop i bs) ≡ symbol (v - 128) (drop (i + 1) bs)
  walk_leaf h l = rw (head bs i h, walk_bit, ← e, le-leb 128 v l)

  pub walk_node : v < 128 → walk u n (drop i bs) ≡ walk u v (drop (i + 1) bs)
  walk_node l = by (leb (length bs) i) refl
    where
      by : (x : Bool) → leb (length bs) i ≡ x → walk u n (drop i bs) ≡ walk u v (drop (i + 1) bs)
      by true q =
          let h : length bs ≤ i = leb-true (length bs) i q in
          walk_early u bs n i h ∙ sym (walk_early u bs v (i + 1) (omega arith))
      by false q =
          let h : i < length bs = leb-false (length bs) i q in
          rw (head bs i h, walk_bit, ← e, lt-leb 128 v l)
