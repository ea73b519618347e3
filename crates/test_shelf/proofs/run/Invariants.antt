-- `run` keeps the length of what it is lent.
use Rattle.std.proofs.Common.{◌≡◌, length}
use Rattle.test_shelf.proofs.run.Given as goal

abbrev pub invariant-loop-n : goal.invariant-loop-n
invariant-loop-n g l = length l.area ≡ length l.initial.area
