-- `step_of` meets its contract.
use mathlib.Core.Path.{ap, ◌∙◌}
use Prim.Native.Nat.{ℕ, ◌*◌, ◌/◌, ◌%◌, ◌^◌}
use native.Mathlib.Omega.{arith}
use Rattle.steps.proofs.Packed.{entry_in}
use Rattle.steps.proofs.step_of.Goals as goal

pub returns : goal.returns
returns c =
    let a = c.args in
    (ap (λ (w : ℕ). w / 2 ^ (16 * (a.i % 4)) % 4096) c.row.ensures ∙ entry_in a.titles a.i, omega arith)
