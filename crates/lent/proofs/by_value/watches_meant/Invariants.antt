-- What holds in the loops of `watches_meant`.
use mathlib.Core.Path.{◌≡◌}
use lib.ListN.{take}
use Rattle.lent_memory.specs.Meaning.{watches_meant}
use Rattle.lent.proofs.by_value.watches_meant.Given as goal

abbrev pub invariant-loop-i : goal.invariant-loop-i
invariant-loop-i l = l.r ≡ watches_meant 16 (take l.i l.ws)
