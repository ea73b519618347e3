-- `readable` meets its contract: the judge is asked about the kept bytes.
use Prim.Native.Nat.{ℕ}
use mathlib.Core.Path.{◌∙◌, ◌≡◌, ap, refl}
use mathlib.Core.List.{List}
use Rattle.std.specs.Prelude.{Err, Ok, Result}
use Rattle.std.specs.Result.{is_ok}
use Rattle.refusal.specs.Outcomes.{outcome}
use Rattle.refusal.specs.declared.Refusal.{Refusal}
use Rattle.shelf.specs.Inner.{readable_in}
use Rattle.shelf.specs.Steps.{is_result}
use Rattle.shelf.specs.Views.{judged}
use Rattle.shelf.proofs.inner.readable.Goals as goal

told : {A : Type 0} (r : Result A Refusal) → is_ok r ≡ is_result (outcome r)
told (Ok a) = refl
told (Err k) = refl

pub returns : goal.returns
unfolding readable_in judged
returns c = c.is_ok.ensures.value ∙ (told c.judge_any.result ∙ (ap is_result c.judge_any.ensures ∙ ap (λ (b : List ℕ). is_result (judged b)) c.kept.ensures))
