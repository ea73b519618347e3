-- The numbers of a rating, of a descriptor and of an advisory's text. SCOPE 3.3, 3.4 and 6.
use Rattle.std.specs.Prelude.{ℕ, List, [], ◌∷◌}
use Rattle.part.specs.declared.Part.{Part}
use Rattle.rating.specs.Values.{Rated, no_advisory, region_absent, dimension_absent, value}
use Rattle.rating.specs.declared.Descriptor.{Descriptor}
use Rattle.refusal.specs.Outputs.{no_value}

-- which answer it is, and the value; an answer without one has no value
abbrev pub rating_numbers : Rated → List ℕ
rating_numbers no_advisory = 1 ∷ no_value ∷ []
rating_numbers region_absent = 2 ∷ no_value ∷ []
rating_numbers dimension_absent = 3 ∷ no_value ∷ []
rating_numbers (value v) = 4 ∷ v ∷ []

-- its tag; where its content begins, and how many bytes it has
abbrev pub descriptor_numbers : Descriptor → List ℕ
descriptor_numbers d = d.tag ∷ d.start ∷ d.size ∷ []

-- where the text begins, and how many bytes it has
abbrev pub text_numbers : Part → List ℕ
text_numbers p = p.start ∷ p.length ∷ []
