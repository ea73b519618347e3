-- What holds in the loop of `deliver_all`: the count does not fall.
use Rattle.std.proofs.Common.{◌≤◌}
use Rattle.bench_calls.proofs.shelves.deliver_all.Given as goal

abbrev pub invariant-loop-w : goal.invariant-loop-w
invariant-loop-w l = l.initial.u.good ≤ l.u.good
