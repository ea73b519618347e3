-- What holds in the loop of `list`.
use Rattle.std.proofs.Common.{◌≤◌, ◌≡◌, length}
use Rattle.lister.proofs.list.Given as goal

abbrev pub invariant-loop : goal.invariant-loop
invariant-loop g l = (l.h.from ≤ l.h.to) × (l.h.to ≤ length l.room) × (length l.room ≡ 65536)
