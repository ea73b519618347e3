-- SCOPE 6.1 and 12.1: a call that stores numbers into a lent output: what it answers, and the output afterwards.
use Rattle.std.specs.Prelude.{ℕ, List, ◌++◌, length, drop}
use Rattle.refusal.specs.Outcomes.{Outcome, refused, resulted, after}

-- the number that a call answers where its result stands in lent memory: the refusal's, or 0 where it is done
abbrev pub number_in : {A : Type 0} → Outcome A → ℕ
number_in (refused k) = k
number_in (resulted a) = 0

-- what stands there where there is no value: a blank is not a nought. A field that always has a value may be this number too: it means no value only
-- where a code beside it says so
abbrev pub no_value : ℕ
no_value = 4294967295

-- how many there are
unfoldable pub counted : Outcome (List ℕ) → Outcome ℕ
counted x = after x (λ us. resulted (length us))

-- they stand at the output's beginning, and then what stood there before; a refusal changes nothing
unfoldable pub output_after : List ℕ → Outcome (List ℕ) → List ℕ
output_after l (refused n) = l
output_after l (resulted us) = us ++ drop (length us) l
