-- The number of bits left falls at each call of `coded` and `raw`.
use lib.ListN.{length}
use Prim.Native.Nat.{◌*◌, ◌-◌}
use Rattle.segment.proofs.+coded_raw.Given as goal

abbrev pub decreases-coded : goal.decreases-coded
decreases-coded l = 8 * length l.s.now.now - l.at

abbrev pub decreases-raw : goal.decreases-raw
decreases-raw l = 8 * length l.s.now.now - l.at
