-- `byte_of` meets its contract.
use mathlib.Core.Path.{ap, ◌∙◌}
use Prim.Native.Nat.{ℕ, ◌*◌, ◌/◌, ◌%◌, ◌^◌}
use native.Mathlib.Omega.{arith}
use Rattle.trees.proofs.Packed.{byte_in}
use Rattle.trees.proofs.byte_of.Goals as goal

pub returns : goal.returns
returns c =
    let a = c.args in
    (ap (λ (w : ℕ). w / 2 ^ (8 * (a.i % 8)) % 256) c.row.ensures ∙ byte_in a.titles a.i, omega arith)
