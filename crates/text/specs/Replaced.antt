-- How many segments of a string are replaced by a stand-in unit: none, while a segment of no read pair refuses the text. No rule speaks of it, and a reader of
-- the rules can pass it over.
use Rattle.std.specs.Prelude.{ℕ, ◌+◌, List, [], ◌∷◌}
use Rattle.refusal.specs.Outcomes.{Outcome, refused, resulted}
use Rattle.strings.specs.Strings.{SegmentFields, StringFields}
use Rattle.text.specs.declared.segments.Way.{Way}
use Rattle.text.specs.Segments.{way_of}
use Rattle.text.specs.Values.{of_string}

-- of a segment that is read so
unfoldable pub replaced_by : Way → ℕ
replaced_by w = 0

-- of several
unfoldable pub replaced_for : List SegmentFields → ℕ
replaced_for [] = 0
replaced_for (g ∷ gs) = replaced_by (way_of g.compression g.mode) + replaced_for gs

-- a number that is told of what was found; 0 where nothing was
unfoldable pub told_from : {A : Type 0} → Outcome A → (A → ℕ) → ℕ
told_from (refused n) k = 0
told_from (resulted a) k = k a

-- of string k; 0 where there is none
abbrev pub replaced_of : List StringFields → ℕ → ℕ
replaced_of ss k = told_from (of_string (λ x. resulted (replaced_for x.segments)) ss k) (λ n. n)
