-- `spot_in` meets its contract.
use native.Mathlib.Omega.{arith}
use Rattle.entry.proofs.EntryLaws.{spot_there, spot_none}
use Rattle.entry.proofs.spot_in.Goals as goal

pub returns-then-i-count_of : goal.returns-then-i-count_of
returns-then-i-count_of c =
    (spot_there _ _ _ (omega (arith, c.if-i-count_of.true, c.count_of.ensures)) c.spot_past.ensures.0, c.spot_past.ensures.1)

pub returns-else-i-count_of : goal.returns-else-i-count_of
returns-else-i-count_of c = (spot_none _ _ _ (omega (arith, c.if-i-count_of.false, c.count_of.ensures)), record {})
