-- SCOPE 4.3 to 4.5: what is answered for a text, by the strings and segments of its value.
use Rattle.std.specs.Prelude.{ℕ, zero, suc, List, [], ◌∷◌, ◌++◌, length}
use Rattle.refusal.specs.Outcomes.{Outcome, refused, resulted, after}
use Rattle.strings.specs.Strings.{SegmentFields, StringFields}
use Rattle.text.specs.declared.answer.Heading.{Heading}
use Rattle.text.specs.Segments.{way_of, units_by}

-- the units of a segment, by its compression and mode
abbrev pub segment_for : SegmentFields → Outcome (List ℕ)
segment_for g = units_by (way_of g.compression g.mode) g.bytes

-- one text after another: the first that is refused decides
unfoldable pub joined : Outcome (List ℕ) → Outcome (List ℕ) → Outcome (List ℕ)
joined x y = after x (λ us. after y (λ vs. resulted (us ++ vs)))

-- of several, joined
unfoldable pub segments_for : List SegmentFields → Outcome (List ℕ)
segments_for [] = resulted []
segments_for (g ∷ gs) = joined (segment_for g) (segments_for gs)

-- language and number_segments of a string
abbrev pub heading_for : StringFields → Heading
heading_for x = record { language = x.language; segments = length x.segments }

-- what is told of string k, counted from 0; 13 where there is none
unfoldable pub of_string : {A : Type 0} → (StringFields → Outcome A) → List StringFields → ℕ → Outcome A
of_string tell [] k = refused 13
of_string tell (x ∷ xs) zero = tell x
of_string tell (x ∷ xs) (suc k) = of_string tell xs k

-- the heading and the units of string k
abbrev pub heading_of : List StringFields → ℕ → Outcome Heading
heading_of ss k = of_string (λ x. resulted (heading_for x)) ss k

abbrev pub units_of : List StringFields → ℕ → Outcome (List ℕ)
units_of ss k = of_string (λ x. segments_for x.segments) ss k
