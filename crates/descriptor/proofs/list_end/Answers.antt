-- `list_end` meets its contract.
use native.Mathlib.Nat.{mod-lt}
use native.Mathlib.Omega.{arith}
use Rattle.descriptor.specs.Places.{list_end}
use Rattle.descriptor.proofs.list_end.Goals as goal

pub returns : goal.returns
unfolding list_end
returns c =
    let p = c.requires in
    let h = mod-lt c.word.result p.0.0 in
    (rw c.word.ensures.0, omega (arith, p, h))
