-- `descriptors_at` meets its contract.
use native.Mathlib.Omega.{arith}
use Rattle.eit.specs.Fields.{descriptors_at}
use Rattle.eit.proofs.event.descriptors_at.Goals as goal

pub returns : goal.returns
unfolding descriptors_at
returns c = let t = c.text_end.ensures in
    (rw t.0 at c.list_at.ensures.0, omega (arith, t.1))
