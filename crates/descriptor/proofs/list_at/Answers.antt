-- `list_at` meets its contract.
use native.Mathlib.Nat.{mod-lt}
use native.Mathlib.Omega.{arith}
use Rattle.descriptor.specs.Places.{list_at}
use Rattle.descriptor.proofs.list_at.Goals as goal

pub returns : goal.returns
unfolding list_at
returns c =
    let p = c.requires in
    let h = mod-lt c.word.result p.0.0 in
    (rw c.word.ensures.0, (omega arith, omega (arith, p, h)))
