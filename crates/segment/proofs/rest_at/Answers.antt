-- `rest_at` meets its contract. The loop: the walk from here is the whole walk.
use mathlib.Core.Path.{◌∙◌}
use Prim.Native.Nat.{◌<◌}
use native.Mathlib.Omega.{arith}
use lib.ListN.{length, get_or}
use Rattle.annex_c.specs.Tree.{tree}
use Rattle.trees.specs.Which.{table_of}
use Rattle.segment.specs.Bits.{all_bits}
use Rattle.segment.proofs.BitLaws.{length_bits}
use Rattle.steps.proofs.WalkLaws.{child_at, walk_early, walk_leaf, walk_node}
use Rattle.segment.proofs.rest_at.Goals as goal

pub returns-then-v-ge128 : goal.returns-then-v-ge128
returns-then-v-ge128 c =
    let q = c.loop-i in
    let a = c.args in
    let u = tree (table_of a.titles) a.prior in
    let bs = all_bits a.s.now in
    let h : q.i < length (all_bits a.s.now) = omega (arith, length_bits a.s.now) in
    let root = c.root_of-base in
    let v = child_at (table_of a.titles) a.prior q.node root.result c.bit_at.result (get_or bs q.i 0) c.byte_of-v.result
    root.ensures.0 c.bit_at.ensures.0 c.byte_of-v.ensures.0 in
    record {
      reads = q.invariant.1 ∙ walk_leaf u bs q.node q.i c.byte_of-v.result v h
          c.if-v-ge128.true;
      onward = omega arith;
      inside = omega arith;
    }

pub loop-i-preserved : goal.loop-i-preserved
loop-i-preserved c =
    let q = c.loop-i in
    let a = c.args in
    let u = tree (table_of a.titles) a.prior in
    let bs = all_bits a.s.now in
    let h : q.i < length (all_bits a.s.now) = omega (arith, length_bits a.s.now) in
    let root = c.root_of-base in
    let v = child_at (table_of a.titles) a.prior q.node root.result c.bit_at.result (get_or bs q.i 0) c.byte_of-v.result
    root.ensures.0 c.bit_at.ensures.0 c.byte_of-v.ensures.0 in
    (c.if-v-ge128.false, q.invariant.1 ∙ walk_node u bs q.node q.i c.byte_of-v.result v c.if-v-ge128.false)

pub returns : goal.returns
returns c =
    let q = c.loop-i in
    let a = c.args in
    q.invariant.1 ∙ walk_early (tree (table_of a.titles) a.prior) (all_bits a.s.now) q.node q.i (omega (arith, length_bits a.s.now))
