-- `put_part` meets its contract: the bytes so far are stored.
use Prim.Native.Nat.{◌+◌, ℕ}
use mathlib.Core.Path.{ap, ◌∙◌}
use mathlib.Core.List.{List}
use native.Mathlib.Omega.{arith}
use lib.ListN.{get_or, set}
use Rattle.bytes_put.proofs.PutLaws.{copy_more}
use Rattle.bytes_put.proofs.put_part.Goals as goal

pub loop-i-preserved : goal.loop-i-preserved
loop-i-preserved c =
    let g = c.args in
    ap (λ (o : List ℕ). set o (g.at + c.loop-i.i) (get_or g.s.now (g.p.start + c.loop-i.i) 0)) c.loop-i.invariant
    ∙ copy_more g.out.now g.s.now g.at g.p.start c.loop-i.i (omega arith)
