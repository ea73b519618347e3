-- A refusal leaves the lent list as it was.
use Prim.Native.Nat.{ℕ}
use mathlib.Core.Path.{◌≡◌, sym, ap, ◌∙◌}
use mathlib.Core.List.{List}
use Rattle.std.specs.Prelude.{Result, Err}
use Rattle.refusal.specs.declared.Refusal.{Refusal}
use Rattle.refusal.specs.Numbers.{number_of}
use Rattle.refusal.specs.Outcomes.{Outcome, refused, outcome}
use Rattle.entry.specs.declared.Entry.{Entry}
use Rattle.rows.specs.Rows.{with_rows}
use Rattle.rows.specs.Values.{with_value_rows}

pub rows_keep : (r : Entry) (s l : List ℕ) (o : Outcome ℕ) (x : Result ℕ Refusal) (k : Refusal) → outcome x ≡ o → x ≡ Err k → with_rows r s o l ≡ l
unfolding with_rows
rows_keep r s l o x k e q = let n : o ≡ refused (number_of k) = sym e ∙ ap outcome q in rw n

pub value_rows_keep : (s l : List ℕ) (o : Outcome ℕ) (x : Result ℕ Refusal) (k : Refusal) → outcome x ≡ o → x ≡ Err k → with_value_rows s o l ≡ l
unfolding with_value_rows
value_rows_keep s l o x k e q = let n : o ≡ refused (number_of k) = sym e ∙ ap outcome q in rw n
