-- What holds in the loop of `answer`: the steps that are left lead where all of them lead.
use Rattle.std.proofs.Common.{◌≤◌, length, drop}
use Rattle.listing.specs.Runs.{all_steps}
use Rattle.listing.proofs.NextLaws.{Alike}
use Rattle.lister.proofs.answer.Given as goal

abbrev pub invariant-loop-n : goal.invariant-loop-n
invariant-loop-n g l = (l.at ≤ length l.held) × Alike (all_steps l.number l.held l.input) (all_steps l.n (drop l.at l.held) l.input)
