-- `compressed_at` meets its contract.
use Rattle.text.proofs.UnitLaws.{plain_same}
use Rattle.text.proofs.segments.compressed_at.Goals as goal

pub returns : goal.returns
returns c = let a = c.args in
    λ q. plain_same a.s.now a.at _ _ _ c.byte.ensures.0 c.byte-2.ensures.0 c.way_of.ensures (c.is_compressed.ensures q)
