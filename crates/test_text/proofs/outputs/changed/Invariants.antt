-- What holds in the loop of `changed`.
use Prim.Native.Nat.{◌≤◌}
use Rattle.test_text.proofs.outputs.changed.Given as goal

abbrev pub invariant-loop-i : goal.invariant-loop-i
invariant-loop-i l = l.k ≤ l.i
