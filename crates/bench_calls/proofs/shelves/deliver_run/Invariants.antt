-- What holds in the loop of `deliver_run`: the count does not fall.
use Rattle.std.proofs.Common.{◌-◌, ◌≤◌, length}
use Rattle.bench_calls.proofs.shelves.deliver_run.Given as goal

abbrev pub invariant-loop-at : goal.invariant-loop-at
invariant-loop-at l = l.initial.u.good ≤ l.u.good

abbrev pub decreases-loop-at : goal.decreases-loop-at
decreases-loop-at l = length l.run - l.at
