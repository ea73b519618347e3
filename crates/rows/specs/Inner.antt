-- What functions over entries that were judged are lent.
use Rattle.std.specs.Prelude.{ℕ, ◌-◌, ◌≤◌, List, length}
use Rattle.bytes_at.specs.Walks.{many}
use Rattle.bytes_at.specs.Inner.{Stands}
use Rattle.format.specs.Formats.{walks}
use Rattle.entry.specs.Entries.{format_of}
use Rattle.entry.specs.declared.Entry.{Entry}

-- n entries stand one after the other, the first at a
pub record Entries (r : Entry) (s : List ℕ) (n a : ℕ) : Type 0 where
  pub stands : Stands (many (walks (format_of r) s (length s - 4)) n a)
  pub begins : a ≤ length s
  pub small : length s ≤ 4096
