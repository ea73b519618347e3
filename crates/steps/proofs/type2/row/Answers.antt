-- `type2::row` meets its contract: the parts are those of the words.
use mathlib.Core.Path.{◌≡◌, sym, ap, ◌∙◌}
use Prim.Native.Nat.{ℕ, ◌+◌, ◌*◌, ◌/◌, ◌%◌, ◌≤◌}
use native.Mathlib.Omega.{arith}
use lib.ListN.{get_or, take, drop, get_or-eq_default}
use lib.Seq.{get_or-take, get_or-drop}
use Rattle.steps.specs.Words2.{steps2}
use Rattle.trees.proofs.Past.{Nots, past}
use Rattle.steps.proofs.type2.row.Goals as goal

at : (k i : ℕ) {r : ℕ} → r ≡ get_or (take 128 (drop (128 * k) steps2)) (i % 128) 0 → i / 128 ≡ k → r ≡ get_or steps2 i 0
at k i e h =
    let f : 128 * k + i % 128 ≡ i = omega arith in
    let g : get_or (drop (128 * k) steps2) (i % 128) 0 ≡ get_or steps2 (128 * k + i % 128) 0 = rw get_or-drop in
    e ∙ get_or-take 128 (drop (128 * k) steps2) (i % 128) 0 (omega arith) ∙ g ∙ ap (λ (j : ℕ). get_or steps2 j 0) f

past_end : (i : ℕ) → Nots 4 (i / 128) → 0 ≡ get_or steps2 i 0
unfolding steps2
past_end i h =
    let far : 512 ≤ i = omega (arith, past 4 h) in
    sym (get_or-eq_default steps2 0 far)

pub returns-in-0 : goal.returns-in-0
returns-in-0 c = at 0 c.args.i c.row0.ensures c.in-0.is

pub returns-in-1 : goal.returns-in-1
returns-in-1 c = at 1 c.args.i c.row1.ensures c.in-1.is

pub returns-in-2 : goal.returns-in-2
returns-in-2 c = at 2 c.args.i c.row2.ensures c.in-2.is

pub returns-in-3 : goal.returns-in-3
returns-in-3 c = at 3 c.args.i c.row3.ensures c.in-3.is

pub returns-in_default : goal.returns-in_default
unfolding Nots
returns-in_default c = search past_end
