-- The numbers of a row, in which a part is two: where it begins, and how long it is.
use Rattle.std.specs.Prelude.{ℕ, List, [], ◌∷◌}
use Rattle.part.specs.declared.Part.{Part}

-- where a part begins, and how many bytes it has
unfoldable pub part_row : Part → List ℕ
part_row p = p.start ∷ p.length ∷ []
