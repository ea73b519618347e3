-- What functions over numbers that were tested are lent.
use Rattle.std.specs.Prelude.{ℕ, ◌+◌, ◌≤◌, ◌≡◌, true, List}
use Rattle.eit.specs.Inner.{size_given, RowsGiven}
use Rattle.section.specs.declared.write.Given.{Given}
use Rattle.section.specs.Writing.{header_fits}

-- the header's numbers have room in their fields, and a section whose body has n bytes in a buffer of so many
pub record Fits (g : Given) (n size : ℕ) : Type 0 where
  pub header : header_fits g ≡ true
  pub largest : n + 13 ≤ 4096
  pub room : n + 13 ≤ size

-- so do an EIT's, whose section has n bytes, and its rows were judged
pub record EitFits (g : Given) (count : ℕ) (rows bytes : List ℕ) (n size : ℕ) : Type 0 where
  pub fits : Fits g (size_given rows count 0 + 1) size
  pub whole : n ≡ size_given rows count 0 + 14
  pub given : RowsGiven rows bytes count 0
  pub few : count ≤ 255
