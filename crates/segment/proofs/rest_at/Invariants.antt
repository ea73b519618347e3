-- What holds in the loops of `rest_at`.
use mathlib.Core.Path.{◌≡◌}
use Prim.Native.Nat.{◌<◌}
use lib.ListN.{drop}
use Rattle.annex_c.specs.Tree.{tree, walk}
use Rattle.trees.specs.Which.{table_of}
use Rattle.segment.specs.Bits.{all_bits}
use Rattle.segment.proofs.rest_at.Given as goal

abbrev pub invariant-loop-i : goal.invariant-loop-i
invariant-loop-i l = (l.node < 128) × (walk (tree (table_of l.titles) l.prior) l.first (drop l.from (all_bits l.s)) ≡ walk (tree (table_of l.titles) l.prior) l.node (drop l.i (all_bits l.s)))
