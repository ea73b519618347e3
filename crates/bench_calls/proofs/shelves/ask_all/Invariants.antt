-- What holds in the loop of `ask_all`: the count does not fall.
use Rattle.std.proofs.Common.{◌≤◌}
use Rattle.bench_calls.proofs.shelves.ask_all.Given as goal

abbrev pub invariant-loop-w : goal.invariant-loop-w
invariant-loop-w l = l.initial.u.good ≤ l.u.good
