-- What the entries promise of a lent output.
use Rattle.std.specs.Prelude.{◌≡◌, ℕ, ◌+◌, min, List, length}
use Rattle.std.proofs.lemmas.List.Edits.{sets}

-- The bytes bs were put into the output l from place n on, those that have room: the next place is r, the output's end at most, and the
-- output is then e.
pub record Put (bs l : List ℕ) (n r : ℕ) (e : List ℕ) : Type 0 where
  pub next : r ≡ min (length l) (n + length bs)
  pub puts : e ≡ sets l n bs
