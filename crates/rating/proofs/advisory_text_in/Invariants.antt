-- What holds in the loop of `advisory_text_in`.
use Prim.Native.Nat.{ℕ, ◌+◌, ◌-◌, ◌≤◌}
use mathlib.Core.Path.{◌≡◌}
use Rattle.std.specs.Prelude.{None}
use Rattle.descriptor.specs.Descriptors.{content_advisory}
use Rattle.rating.specs.Ratings.{descriptor_size, first_match, region_in, region_text_at, text_in}
use Rattle.rating.proofs.advisory_text_in.Given as goal

abbrev pub invariant-loop-close : goal.invariant-loop-close
invariant-loop-close l = (f : ℕ) × ((l.end ≤ l.at + f)
    × (first_match l.s (descriptor_size l.s) f l.end l.at content_advisory (λ a. region_in l.s l.region a (region_text_at l.s) None) None ≡ text_in l.s l.region l.end l.from))

abbrev pub decreases-loop-close : goal.decreases-loop-close
decreases-loop-close l = l.end - l.at
