-- `none_seen` meets its contract.
use mathlib.Core.Path.{refl}
use mathlib.Core.Bool.{false}
use Rattle.shelf_state.proofs.RecordLaws.{replicate_at}
use Rattle.shelf_state.proofs.rules.none_seen.Goals as goal

pub returns : goal.returns
returns c = (refl, λ k. replicate_at 1024 k false)
