-- What holds in the loop of `bench_deliveries`: with no rounds nothing is counted.
use Rattle.std.proofs.Common.{◌≡◌}
use Rattle.bench_calls.proofs.shelves.bench_deliveries.Given as goal

abbrev pub invariant-loop : goal.invariant-loop
invariant-loop l = l.rounds ≡ 0 → l.t.good ≡ 0
