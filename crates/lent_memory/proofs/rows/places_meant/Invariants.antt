-- What holds in the loops of `places_meant`.
use mathlib.Core.Path.{◌≡◌}
use lib.ListN.{replicate}
use Rattle.shelf_state.specs.Records.{blank_place}
use Rattle.lent_memory.specs.Meaning.{places_meant}
use Rattle.lent_memory.proofs.rows.places_meant.Given as goal

abbrev pub invariant-loop-i : goal.invariant-loop-i
invariant-loop-i l = l.ps ≡ places_meant l.i l.l (replicate 64 blank_place)
