-- The two step tables as words, by one name.
use Rattle.std.specs.Prelude.{ℕ, Bool, true, false, List}
use Rattle.steps.specs.Words1.{steps1}
use Rattle.steps.specs.Words2.{steps2}

unfoldable pub step_words : Bool → List ℕ
step_words true = steps1
step_words false = steps2
