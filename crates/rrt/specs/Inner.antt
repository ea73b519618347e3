-- What functions over dimensions and values that were judged are lent.
use Rattle.std.specs.Prelude.{ℕ, ◌-◌, List, length}
use Rattle.bytes_at.specs.Walks.{many}
use Rattle.bytes_at.specs.Inner.{Stands}
use Rattle.format.specs.Formats.{walks}
use Rattle.rrt.specs.Walked.{value, dimension}

-- a dimension stands at d
abbrev pub DimensionStands : List ℕ → ℕ → Type 0
DimensionStands s d = Stands (walks dimension s (length s - 4) d)

-- n values stand one after the other, the first at a
abbrev pub ValuesStand : List ℕ → ℕ → ℕ → Type 0
ValuesStand s n a = Stands (many (walks value s (length s - 4)) n a)
