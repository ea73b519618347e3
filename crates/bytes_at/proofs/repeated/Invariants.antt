-- What holds in the loop of `repeated`: the steps that are left lead to the answer, whatever walk the step means.
use Rattle.std.proofs.Common.{ℕ, ◌≡◌, ◌-◌}
use Rattle.bytes_at.specs.Walks.{Walk, many}
use Rattle.bytes_at.proofs.repeated.Given as goal

abbrev pub invariant-loop : goal.invariant-loop
invariant-loop g l =
    (p : ℕ → Walk) → ((a : ℕ) (w : Walk) → goal.F-post g l.step a w → w ≡ p a) → many p (l.n - l.counter) l.at ≡ many p l.n l.from
