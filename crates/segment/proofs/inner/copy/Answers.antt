-- `segment::inner::copy` meets its contract. The loop: the first i units are stored.
use mathlib.Core.Path.{ap, ◌∙◌}
use Prim.Native.Nat.{ℕ, ◌+◌, ◌<◌}
use native.Mathlib.Omega.{arith}
use mathlib.Core.List.{List}
use lib.ListN.{length, get_or, set}
use Rattle.segment.proofs.TextLaws.{copied}
use Rattle.segment.proofs.inner.copy.Goals as goal

pub loop-i-preserved : goal.loop-i-preserved
loop-i-preserved c =
    let q = c.loop-i in
    let a = c.args in
    let h : q.i < length a.o.now = omega arith in
    c.put_unit.ensures ∙ ap (λ (l : List ℕ). set l (a.n + q.i) (get_or a.o.now q.i 0)) q.invariant ∙ copied a.out.now a.o.now a.n q.i h
