-- How a walk steps past fields.
use Rattle.std.specs.Prelude.{ℕ, ◌+◌, zero, suc, List, [], ◌∷◌}
use Rattle.format.specs.Values.{Field, bits, reserved, piece}

-- the steps of a walk past fields, after n bits that lead: reserved bits and pieces count to the field that they lead
abbrev pub steps_after : List Field → ℕ → List ℕ
steps_after [] zero = []
steps_after [] (suc n) = suc n ∷ []
steps_after (bits m ∷ fs) n = (n + m) ∷ steps_after fs 0
steps_after (reserved m ∷ fs) n = steps_after fs (n + m)
steps_after (piece m ∷ fs) n = steps_after fs (n + m)

abbrev pub steps : List Field → List ℕ
steps fs = steps_after fs 0
