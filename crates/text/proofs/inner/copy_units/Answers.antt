-- `copy_units` meets its contract: the first i units are stored.
use Prim.Native.Nat.{ℕ, ◌+◌, ◌<◌}
use mathlib.Core.List.{List}
use mathlib.Core.Path.{ap, ◌∙◌}
use native.Mathlib.Omega.{arith}
use lib.ListN.{length, get_or, set, length-set}
use Rattle.segment.proofs.TextLaws.{copied}
use Rattle.text.proofs.inner.copy_units.Goals as goal

pub loop-i-preserved : goal.loop-i-preserved
loop-i-preserved c =
    let q = c.loop-i in
    let a = c.args in
    let h : q.i < length a.o.now = omega arith in (
      ap (λ (l : List ℕ). set l (a.n + q.i) (get_or a.o.now q.i 0)) q.invariant.0 ∙ copied a.out.now a.o.now a.n q.i h,
      length-set q.out (a.n + q.i) (get_or a.o.now q.i 0) ∙ q.invariant.1,
    )
