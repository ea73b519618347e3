-- The numbers of what is answered about a text. SCOPE 4 and 6.
use Rattle.std.specs.Prelude.{ℕ, List, [], ◌∷◌}
use Rattle.text.specs.declared.answer.Amount.{Amount}
use Rattle.text.specs.declared.answer.Heading.{Heading}

-- the language and the number of segments
abbrev pub heading_numbers : Heading → List ℕ
heading_numbers h = h.language ∷ h.segments ∷ []

-- how many units, and how many segments were replaced
abbrev pub amount_numbers : Amount → List ℕ
amount_numbers a = a.units ∷ a.replaced ∷ []
