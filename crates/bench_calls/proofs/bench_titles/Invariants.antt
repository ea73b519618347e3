-- What holds in the loop of `bench_titles`: there are no more texts than bytes that were passed.
use Rattle.std.proofs.Common.{◌-◌, ◌≤◌, length}
use Rattle.bench_calls.proofs.bench_titles.Given as goal

abbrev pub invariant-loop-at : goal.invariant-loop-at
invariant-loop-at l = (l.texts ≤ l.at) × (l.texts ≤ length l.s)

abbrev pub decreases-loop-at : goal.decreases-loop-at
decreases-loop-at l = length l.s - l.at
