-- `store` meets its contract: the bytes so far are pasted.
use Prim.Native.Nat.{◌+◌, ℕ}
use mathlib.Core.Path.{◌∙◌, ap, sym}
use mathlib.Core.List.{List}
use native.Mathlib.Numerals.{add-one}
use native.Mathlib.Omega.{arith}
use lib.ListN.{get_or, set}
use lib.Seq.{paste, paste-suc}
use Rattle.shelf.proofs.delivery.store.Goals as goal

pub loop-i-preserved : goal.loop-i-preserved
loop-i-preserved c = let g = c.args in
    let i = c.loop-i.i in
    ap (λ (x : List ℕ). set x (g.at + i) (get_or g.bytes.now i 0)) c.loop-i.invariant
    ∙ paste-suc g.area.now g.at g.bytes.now i 0 (omega (arith, c.requires, c.loop-i-test.true)) c.loop-i-test.true
    ∙ ap (paste g.area.now g.at g.bytes.now) (sym (add-one i))
