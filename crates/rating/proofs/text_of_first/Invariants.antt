-- What holds in the loop of `text_of_first`.
use Prim.Native.Nat.{◌-◌}
use mathlib.Core.Path.{◌≡◌}
use Rattle.std.specs.Prelude.{None}
use Rattle.rating.specs.Ratings.{region_size, first_match, region_text_at}
use Rattle.rating.proofs.text_of_first.Given as goal

abbrev pub invariant-loop : goal.invariant-loop
invariant-loop l = first_match l.s (region_size l.s) (l.n - l.counter) l.close l.at l.region (region_text_at l.s) None
    ≡ first_match l.s (region_size l.s) l.n l.close l.from l.region (region_text_at l.s) None
