-- What holds in the loops of `write_rows`.
use mathlib.Core.Path.{◌≡◌}
use Rattle.lent_memory.specs.Changes.{rows_below}
use Rattle.lent_memory.proofs.changes.write_rows.Given as goal

abbrev pub invariant-loop-i : goal.invariant-loop-i
invariant-loop-i l = l.l ≡ rows_below l.i l.s l.t l.initial.l
