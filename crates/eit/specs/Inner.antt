-- What functions over events that were judged are lent, and over rows that were.
use Rattle.std.specs.Prelude.{ℕ, ◌+◌, ◌*◌, ◌≤◌, zero, suc, ◌≡◌, true, List, length}
use Rattle.bytes_at.specs.Walks.{many}
use Rattle.bytes_at.specs.Inner.{Stands}
use Rattle.format.specs.Formats.{walks}
use Rattle.eit.specs.Walked.{event}
use Rattle.eit.specs.Given.{row_fits, rows_fit, row_sound, rows_sound, title_given, list_given}

-- n events stand one after the other, the first at a, in a container that ends at `end`
pub record Events (s : List ℕ) (n a : ℕ) : Type 0 where
  pub end : ℕ
  pub stands : Stands (many (walks event s end) n a)
  pub begins : a ≤ length s
  pub inside : end ≤ length s
  pub small : length s ≤ 4096

-- a row that was judged begins at number a, and n rows at number a
pub record RowGiven (rows bytes : List ℕ) (a : ℕ) : Type 0 where
  pub inside : a + 8 ≤ length rows
  pub fits : row_fits rows a ≡ true
  pub sound : row_sound rows bytes a ≡ true

pub record RowsGiven (rows bytes : List ℕ) (n a : ℕ) : Type 0 where
  pub inside : a + 8 * n ≤ length rows
  pub fits : rows_fit rows n a ≡ true
  pub sound : rows_sound rows bytes n a ≡ true

-- the bytes of the events of n rows: twelve each, and those of the title and the descriptors
unfoldable pub size_given : List ℕ → ℕ → ℕ → ℕ
size_given rows zero a = 0
size_given rows (suc n) a = (12 + (title_given rows a).length + (list_given rows a).length) + size_given rows n (a + 8)
