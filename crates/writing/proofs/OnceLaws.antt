-- A refusal leaves the buffer as it was.
use Prim.Native.Nat.{ℕ}
use mathlib.Core.Path.{◌≡◌, sym, ap, ◌∙◌}
use mathlib.Core.List.{List}
use Rattle.std.specs.Prelude.{Result, Err}
use Rattle.refusal.specs.declared.Refusal.{Refusal}
use Rattle.refusal.specs.Numbers.{number_of}
use Rattle.refusal.specs.Outcomes.{Outcome, outcome}
use Rattle.refusal.specs.Outputs.{counted, output_after}
use Rattle.refusal.proofs.OutputLaws.{from_refusal}

pub buffer_keeps : (l : List ℕ) (o : Outcome (List ℕ)) (x : Result ℕ Refusal) (k : Refusal) → outcome x ≡ counted o → x ≡ Err k
    → output_after l o ≡ l
unfolding output_after
buffer_keeps l o x k e q = let n = from_refusal o (number_of k) (sym (ap outcome q) ∙ e) in rw n
