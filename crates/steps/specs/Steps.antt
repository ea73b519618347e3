-- Four moves of a decode tree at once: for each prior symbol and each four bits, where they lead.
use Rattle.std.specs.Prelude.{ℕ, zero, suc, ◌+◌, ◌*◌, ◌-◌, ◌/◌, ◌%◌, ◌^◌, List, [], ◌∷◌, ◌++◌, true, false, leb}
use Rattle.annex_c.specs.Tree.{tree, child}

-- the last k of the four bits w, from node n of the tree u on: 16 times the byte they lead to, and how many of the four are used. A
-- byte from 128 on is a leaf and ends the walk; with no leaf all four are used
unfoldable pub entry_from : List ℕ → ℕ → ℕ → ℕ → ℕ
entry_from u w zero n = 16 * n + 4
entry_from u w (suc k) n = elim (leb 128 (child u n (w / 2 ^ k % 2))) [
  | true ↦ 16 * child u n (w / 2 ^ k % 2) + (4 - k)
  | false ↦ entry_from u w k (child u n (w / 2 ^ k % 2))
]

-- the entries of a tree, for m numbers of four bits from w on
unfoldable pub steps_of_tree : List ℕ → ℕ → ℕ → List ℕ
steps_of_tree u zero w = []
steps_of_tree u (suc m) w = entry_from u w 4 0 ∷ steps_of_tree u m (w + 1)

-- those of m prior symbols from p on
unfoldable pub steps_from : List ℕ → ℕ → ℕ → List ℕ
steps_from t zero p = []
steps_from t (suc m) p = steps_of_tree (tree t p) 16 0 ++ steps_from t m (p + 1)

-- the step table of a decode table
unfoldable pub step_table : List ℕ → List ℕ
step_table t = steps_from t 128 0
