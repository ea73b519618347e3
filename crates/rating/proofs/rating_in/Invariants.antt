-- What holds in the loops of `rating_in`: the one over advisories, in it the one over regions, and in that the one over dimensions.
use Prim.Native.Nat.{ℕ, ◌+◌, ◌-◌, ◌*◌, ◌%◌, ◌≤◌}
use mathlib.Core.Path.{◌≡◌}
use Rattle.bytes_at.specs.Fields.{byte_at}
use Rattle.descriptor.specs.Descriptors.{content_advisory}
use Rattle.rating.specs.Values.{no_advisory, region_absent, dimension_absent, value}
use Rattle.rating.specs.Ratings.{descriptor_size, region_size, first_match, rated_by_region, rated_by_advisory, rating_in}
use Rattle.rating.proofs.rating_in.Given as goal

abbrev pub invariant-loop-i : goal.invariant-loop-i
invariant-loop-i l =
    first_match l.s (λ r. 2) (l.dimensions - l.i) (l.p + region_size l.s l.p) (l.p + 2 + 2 * l.i) l.dimension (λ r. value (byte_at l.s (r + 1) % 16)) dimension_absent
    ≡ rating_in l.s l.region l.dimension l.end l.from

abbrev pub invariant-loop : goal.invariant-loop
invariant-loop l = first_match l.s (region_size l.s) (l.regions - l.counter) l.close l.p l.region (rated_by_region l.s l.dimension) region_absent
    ≡ rating_in l.s l.region l.dimension l.end l.from

abbrev pub invariant-search : goal.invariant-search
invariant-search l = (f : ℕ) × ((l.end ≤ l.at + f)
    × (first_match l.s (descriptor_size l.s) f l.end l.at content_advisory (rated_by_advisory l.s l.region l.dimension) no_advisory
    ≡ rating_in l.s l.region l.dimension l.end l.from))

abbrev pub decreases-search : goal.decreases-search
decreases-search l = l.end - l.at
