-- `put_short` meets its contract.
use mathlib.Core.Path.{refl}
use Rattle.listing.specs.Steps.{short_step}
use native.Mathlib.Omega.{arith}
use Rattle.shown.proofs.PutLaws.{put_nothing}
use Rattle.listing.proofs.StepLaws.{tells_over}
use Rattle.listing.proofs.put_short.Goals as goal

pub returns-in-More : goal.returns-in-More
unfolding short_step
returns-in-More c = rw c.in-More.is (record { puts = put_nothing _ 0 0 (omega arith); taken = refl; next = refl })

pub returns-in-Unread : goal.returns-in-Unread
unfolding short_step
returns-in-Unread c = rw c.in-Unread.is (tells_over c.put_bad.ensures c.over.ensures)
