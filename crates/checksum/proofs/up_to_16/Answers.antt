-- `up_to_16` meets its contract: after each step fewer bytes are left, and one is the last.
-- Assumes nothing.
use Prim.Native.Nat.{ℕ, ◌+◌, ◌<◌, ◌≤◌}
use mathlib.Core.Path.{refl}
use mathlib.Core.List.{List}
use native.Mathlib.Omega.{arith}
use lib.ListN.{length, drop}
use Rattle.checksum.specs.Ahead.{End}
use Rattle.checksum.proofs.Blocks.{block_one, block_two, one_left, took, kept}
use Rattle.checksum.proofs.up_to_16.Goals as goal
use Rattle.checksum.proofs.up_to_16.Goals.{then-s-at-gt8, else-s-at-gt8, then-s-at-gt4, else-s-at-gt4, then-s-at-gt2, else-s-at-gt2, then-s-at-gt1, else-s-at-gt1}

-- so many bytes are left at most, and one at least
abbrev Left : ℕ → List ℕ → ℕ → Type 0
Left n s i = (i < length s) × (length s ≤ i + n)

pub returns : goal.returns
returns c =
    let a = c.args in
    let s = a.s.now in
    let eight = c.if-s-at-gt8 in
    let four = c.if-s-at-gt4 in
    let two = c.if-s-at-gt2 in
    let one = c.if-s-at-gt1 in
    let r = c.last_byte.result in
    let in8 : Left 8 s eight.at = elim eight.branch [ then-s-at-gt8 w ↦ (omega arith, omega arith) | else-s-at-gt8 w ↦ (omega arith, omega arith) ] in
    let in4 : Left 4 s four.at = elim four.branch [ then-s-at-gt4 w ↦ (omega arith, omega arith) | else-s-at-gt4 w ↦ (omega arith, omega arith) ] in
    let in2 : Left 2 s two.at = elim two.branch [ then-s-at-gt2 w ↦ (omega arith, omega arith) | else-s-at-gt2 w ↦ (omega arith, omega arith) ] in
    let in1 : Left 1 s one.at = elim one.branch [ then-s-at-gt1 w ↦ (omega arith, omega arith) | else-s-at-gt1 w ↦ (omega arith, omega arith) ] in
    let at1 : End (drop one.at s) one.a r = one_left one.at _ _ s in1.0 in1.1 c.last_byte.ensures in
    let at2 : End (drop two.at s) two.a r =
    elim one.branch [
      | then-s-at-gt1 w ↦ took 1 two.at two.a _ _ _ _ _ s (block_one s two.at in2.0) w.one_more-a.ensures w.a-is w.at-is at1
      | else-s-at-gt1 w ↦ kept two.at two.a _ _ _ s w.a-is w.at-is at1
    ] in
    let at4 : End (drop four.at s) four.a r =
    elim two.branch [
      | then-s-at-gt2 w ↦ took 2 four.at four.a _ _ _ _ _ s (block_two s four.at (omega arith)) w.two_more-a.ensures w.a-is w.at-is at2
      | else-s-at-gt2 w ↦ kept four.at four.a _ _ _ s w.a-is w.at-is at2
    ] in
    let at8 : End (drop eight.at s) eight.a r =
    elim four.branch [
      | then-s-at-gt4 w ↦ took 4 eight.at eight.a _ _ _ _ _ s refl w.four_more-a.ensures w.a-is w.at-is at4
      | else-s-at-gt4 w ↦ kept eight.at eight.a _ _ _ s w.a-is w.at-is at4
    ] in
    elim eight.branch [
      | then-s-at-gt8 w ↦ took 8 a.at a.a _ _ _ _ _ s refl w.eight_more-a.ensures w.a-is w.at-is at8
      | else-s-at-gt8 w ↦ kept a.at a.a _ _ _ s w.a-is w.at-is at8
    ]
