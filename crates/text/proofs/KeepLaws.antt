-- A refusal leaves the output as it was.
use Prim.Native.Nat.{ℕ}
use mathlib.Core.Path.{◌≡◌, sym, ap, ◌∙◌}
use mathlib.Core.List.{List}
use Rattle.std.specs.Prelude.{Result, Err}
use Rattle.refusal.specs.declared.Refusal.{Refusal}
use Rattle.refusal.specs.Numbers.{number_of}
use Rattle.refusal.specs.Outcomes.{Outcome, outcome}
use Rattle.refusal.specs.Outputs.{output_after}
use Rattle.text.specs.declared.answer.Amount.{Amount}
use Rattle.text.specs.Answers.{amount_of}
use Rattle.text.proofs.AmountLaws.{from_no_amount}

pub text_keeps : (p : ℕ) (l : List ℕ) (o : Outcome (List ℕ)) (x : Result Amount Refusal) (k : Refusal) → outcome x ≡ amount_of p o → x ≡ Err k
    → output_after l o ≡ l
unfolding output_after
text_keeps p l o x k e q = let n = from_no_amount p o (number_of k) (sym (ap outcome q) ∙ e) in rw n
