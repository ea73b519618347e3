-- `read` meets its contract.
use native.Mathlib.Omega.{arith}
use lib.ListN.{length}
use Rattle.segment.specs.Bits.{all_bits}
use Rattle.segment.specs.Segment.{segment_text}
use Rattle.segment.proofs.BitLaws.{length_bits}
use Rattle.segment.proofs.read.Goals as goal

pub returns : goal.returns
unfolding segment_text
returns c =
    let a = c.args in
    c.coded.ensures.by (length (all_bits a.s.now)) (omega (arith, length_bits a.s.now))
