-- Words of four entries, the first lowest: which entry stands where, and that the words hold the step table.
use mathlib.Core.Path.{◌≡◌, refl, sym, ap, ◌∙◌}
use mathlib.Core.Bool.{Bool, true, false}
use mathlib.Core.List.{List, [], ◌∷◌, ◌++◌}
use Prim.Native.Nat.{ℕ, zero, suc, ◌+◌, ◌*◌, ◌/◌, ◌%◌, ◌^◌, ◌<◌}
use native.Mathlib.Nat.{zero-add, zero-div}
use native.Mathlib.Omega.{arith}
use lib.ListN.{length, get_or, get_or-append}
use lib.Seq.{get_or-append-add}
use Rattle.annex_c.specs.Table1.{table1}
use Rattle.annex_c.specs.Table2.{table2}
use Rattle.annex_c.specs.Tree.{root, tree, child}
use Rattle.trees.specs.Which.{table_of}
use Rattle.steps.specs.Steps.{entry_from, steps_of_tree, steps_from, step_table}
use Rattle.steps.specs.Words1.{steps1}
use Rattle.steps.specs.Words2.{steps2}
use Rattle.steps.specs.Words.{step_words}

entries_in : ℕ → List ℕ
entries_in w = w % 4096 ∷ w / 65536 % 4096 ∷ w / 4294967296 % 4096 ∷ w / 281474976710656 % 4096 ∷ []

entries : List ℕ → List ℕ
entries [] = []
entries (w ∷ ws) = entries_in w ++ entries ws

length_entries_in : (w : ℕ) → length (entries_in w) ≡ 4
unfolding entries_in
length_entries_in w = refl

in_word : (w r : ℕ) → r < 4 → get_or (entries_in w) r 0 ≡ w / 2 ^ (16 * r) % 4096
unfolding entries_in
in_word w zero l = omega arith
in_word w (suc zero) l = refl
in_word w (suc (suc zero)) l = refl
in_word w (suc (suc (suc zero))) l = refl
in_word w (suc (suc (suc (suc r)))) l = absurd (omega arith)

in_words : (ws : List ℕ) (q r : ℕ) → r < 4 → get_or (entries ws) (4 * q + r) 0 ≡ get_or ws q 0 / 2 ^ (16 * r) % 4096
unfolding entries
in_words [] q r l = rw (zero-div (2 ^ (16 * r)))
in_words (w ∷ ws) zero r l = rw zero-add (get_or-append (entries_in w) (entries ws) 0 r (rw length_entries_in l) ∙ in_word w r l)
in_words (w ∷ ws) (suc q) r l =
    let e : 4 * suc q + r ≡ length (entries_in w) + (4 * q + r) = omega (arith, length_entries_in w) in
    rw e (get_or-append-add (entries_in w) (entries ws) (4 * q + r) 0 ∙ in_words ws q r l)

held1 : entries steps1 ≡ step_table table1
unfolding entries entries_in steps1 step_table steps_from steps_of_tree entry_from tree root child table1
held1 = refl

held2 : entries steps2 ≡ step_table table2
unfolding entries entries_in steps2 step_table steps_from steps_of_tree entry_from tree root child table2
held2 = refl

held : (b : Bool) → entries (step_words b) ≡ step_table (table_of b)
unfolding step_words table_of
held true = held1
held false = held2

pub entry_in : (b : Bool) (i : ℕ) → get_or (step_words b) (i / 4) 0 / 2 ^ (16 * (i % 4)) % 4096 ≡ get_or (step_table (table_of b)) i 0
entry_in b i =
    let e : 4 * (i / 4) + i % 4 ≡ i = omega arith in
    sym (in_words (step_words b) (i / 4) (i % 4) (omega arith)) ∙ ap (λ (k : ℕ). get_or (entries (step_words b)) k 0) e
    ∙ ap (λ (l : List ℕ). get_or l i 0) (held b)
