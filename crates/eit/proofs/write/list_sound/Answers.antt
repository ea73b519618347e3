-- `list_sound` meets its contract.
use native.Mathlib.Omega.{arith}
use Rattle.eit.proofs.GivenLaws.{part_past, part_sliced}
use Rattle.eit.proofs.write.list_sound.Goals as goal

pub returns-in-Some : goal.returns-in-Some
returns-in-Some c = let l = c.in-Some.ensures.lookup in part_sliced _ _ _ l.0.1 l.0.2 c.whole_descriptors.ensures c.is_ok.ensures.value

pub returns-in-None : goal.returns-in-None
returns-in-None c = part_past _ _ _ (omega (arith, c.in-None.ensures.lookup))
