-- `whole_rows` meets its contract.
use Prim.Native.Nat.{◌/◌}
use mathlib.Core.Path.{refl, ◌∙◌}
use native.Mathlib.Omega.{arith}
use lib.ListN.{length}
use Rattle.std.proofs.Math.Nat.{min-le_right}
use Rattle.writing.specs.Written.{whole_rows}
use Rattle.writing.proofs.EitLaws.{lesser}
use Rattle.writing.proofs.eits.whole_rows.Goals as goal

pub returns : goal.returns
unfolding whole_rows
returns c =
    let there = length c.args.rows.now / 8 in
    (c.min.ensures ∙ lesser _ _ _ refl, omega (arith, c.min.ensures, min-le_right c.args.count there))
