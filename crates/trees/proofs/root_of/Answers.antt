-- `root_of` meets its contract.
use mathlib.Core.Path.{ap, ◌∙◌}
use Prim.Native.Nat.{ℕ, ◌+◌, ◌*◌, ◌/◌, ◌%◌, ◌^◌}
use lib.Seq.{get_or-take}
use native.Mathlib.Omega.{arith}
use Rattle.trees.specs.Which.{words_of}
use Rattle.trees.proofs.Packed.{root_in}
use Rattle.trees.proofs.root_of.Goals as goal

pub returns : goal.returns
returns c =
    let a = c.args in
    let p = a.prior in
    let e = c.head.ensures ∙ get_or-take 64 (words_of a.titles) (p / 4) 0 (omega arith) in
    (ap (λ (w : ℕ). 256 * (w / 2 ^ (16 * (p % 4)) % 256) + w / 2 ^ (16 * (p % 4)) / 256 % 256) e ∙ root_in a.titles p, omega arith)
