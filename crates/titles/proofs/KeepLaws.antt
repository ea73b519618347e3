-- A refusal leaves both lent lists as they were.
use Prim.Native.Nat.{ℕ}
use mathlib.Core.Path.{◌≡◌, sym, ap, ◌∙◌}
use mathlib.Core.List.{List}
use Rattle.std.specs.Prelude.{Result, Err}
use Rattle.refusal.specs.declared.Refusal.{Refusal}
use Rattle.refusal.specs.Numbers.{number_of}
use Rattle.refusal.specs.Outcomes.{Outcome, refused, outcome}
use Rattle.titles.specs.Titles.{Counts, with_title_rows, with_units}

pub titles_keep : (s rows units : List ℕ) (o : Outcome Counts) (x : Result Counts Refusal) (k : Refusal) → outcome x ≡ o → x ≡ Err k
    → (with_title_rows s o rows ≡ rows) × (with_units s o units ≡ units)
unfolding with_title_rows with_units
titles_keep s rows units o x k e q = let n : o ≡ refused (number_of k) = sym e ∙ ap outcome q in (rw n, rw n)
