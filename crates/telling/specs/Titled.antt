-- The numbers that are told of all events and titles. SCOPE 3.1 and 4.4.
use Rattle.std.specs.Prelude.{ℕ, List, [], ◌∷◌}
use Rattle.titles.specs.declared.Counts.{Counts}

-- how many events there are, and how many units their titles have
abbrev pub counts_numbers : Counts → List ℕ
counts_numbers c = c.events ∷ c.units ∷ []
