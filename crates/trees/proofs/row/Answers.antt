-- `row` meets its contract.
use mathlib.Core.Path.{◌≡◌, sym, ap, ◌∙◌}
use mathlib.Core.Bool.{Bool, true, false}
use Prim.Native.Nat.{ℕ}
use lib.ListN.{get_or}
use Rattle.trees.specs.Which.{words_of}
use Rattle.trees.proofs.row.Goals as goal

at : (i : ℕ) {b k : Bool} {r : ℕ} → r ≡ get_or (words_of k) i 0 → b ≡ k → r ≡ get_or (words_of b) i 0
at i e h = e ∙ sym (ap (λ (x : Bool). get_or (words_of x) i 0) h)

pub returns-then-titles : goal.returns-then-titles
unfolding words_of
returns-then-titles c = at c.args.i {k = true} c.row.ensures c.if-titles.true

pub returns-else-titles : goal.returns-else-titles
unfolding words_of
returns-else-titles c = at c.args.i {k = false} c.row-else-titles.ensures c.if-titles.false
