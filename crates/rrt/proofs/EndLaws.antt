-- Dimensions and values that stand: how code comes to their ends.
use Prim.Native.Nat.{ℕ, zero, suc, ◌-◌, ◌≤◌, ◌<◌}
use mathlib.Core.Path.{◌≡◌, refl, subst}
use mathlib.Core.List.{List}
use native.Mathlib.Numerals.{sub-one}
use native.Mathlib.Omega.{arith}
use lib.ListN.{length}
use Rattle.std.specs.Prelude.{Ok}
use Rattle.bytes_at.specs.Walks.{many}
use Rattle.bytes_at.proofs.WalkLaws.{many_inv}
use Rattle.format.specs.Formats.{walks}
use Rattle.rrt.specs.Walked.{value}
use Rattle.rrt.specs.Fields.{values_at, first_value_at, value_end, values_end}
use Rattle.rrt.specs.Inner.{DimensionStands, ValuesStand}
use Rattle.rrt.proofs.WalkLaws.{value_forward, value_ends, values_walked, dimension_forward}

-- ---- values
-- the first of those that stand begins within the bytes, and behind it stand the others
pub values_step : (s : List ℕ) (n a : ℕ) → 0 < n → ValuesStand s n a → (a ≤ length s) × ValuesStand s (n - 1) (value_end s a)
values_step s n a h t =
    let m = many_inv _ n a t.0 h t.1 in
    let e = value_ends s (length s - 4) a m.0 m.1.0 in
    let f = value_forward s (length s - 4) a m.0 m.1.0 in
    (omega (arith, f), (t.0, subst (λ b. many (walks value s (length s - 4)) (n - 1) b ≡ Ok t.0) e m.1.1))

pub values_more : (s : List ℕ) (n a : ℕ) → 0 < n → values_end s (n - 1) (value_end s a) ≡ values_end s n a
unfolding values_end
values_more s zero a h = absurd (omega arith)
values_more s (suc n) a h = rw sub-one refl

pub values_none : (s : List ℕ) (n a : ℕ) → n ≡ 0 → a ≡ values_end s n a
unfolding values_end
values_none s n a e = rw e

-- ---- a dimension: it begins within the bytes, and its values stand
pub dimension_begins : (s : List ℕ) (d : ℕ) → DimensionStands s d → d ≤ length s
dimension_begins s d t = omega (arith, dimension_forward s (length s - 4) d t.0 t.1)

pub dimension_values : (s : List ℕ) (d : ℕ) → DimensionStands s d → ValuesStand s (values_at s d) (first_value_at s d)
dimension_values s d t = (t.0, (values_walked s (length s - 4) d t.0 t.1).0)
