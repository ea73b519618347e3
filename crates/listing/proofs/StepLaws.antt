-- Which step it is, by the tests in their order.
use Prim.Native.Nat.{ℕ, ◌+◌, ◌≤◌, ◌<◌}
use mathlib.Core.Path.{◌≡◌, refl, sym, ap, subst}
use mathlib.Core.Bool.{Bool}
use mathlib.Core.List.{List}
use lib.ListN.{length}
use Rattle.logic.proofs.ChoiceLaws.{lt_yes, lt_no, eq_yes, eq_no}
use Rattle.record.specs.Records.{head_size, to_come, whole}
use Rattle.lines.specs.Records.{last_line, bad_lines}
use Rattle.shown.specs.Output.{Put}
use Rattle.listing.specs.Steps.{Step, over, short_step, full_step, step_of, Tells}
use Rattle.listing.specs.declared.Input.{Input}
use Rattle.listing.specs.declared.Input.TheVariants.{Ended}
use Rattle.listing.specs.declared.Next.TheVariants.{Over}
use Rattle.listing.specs.declared.Stepped.{Stepped}

module _ (n : ℕ) (s : List ℕ) where
  pub at_the_end : length s ≡ 0 → over (last_line n) ≡ short_step n s Ended
  unfolding short_step
  at_the_end h = eq_yes (length s) 0 (over (last_line n)) (over (bad_lines n)) h refl

  pub cut_at_the_end : (length s ≡ 0 → ⊥) → over (bad_lines n) ≡ short_step n s Ended
  unfolding short_step
  cut_at_the_end h = eq_no (length s) 0 (over (last_line n)) (over (bad_lines n)) h refl

  module _ (i : Input) where
    pub too_short : length s < head_size + to_come s → short_step n s i ≡ step_of n s i
    unfolding step_of
    too_short h = lt_yes (length s) (head_size + to_come s) (short_step n s i) (full_step n s (whole s)) h refl

    pub long_enough : (t : Bool) → head_size + to_come s ≤ length s → whole s ≡ t → full_step n s t ≡ step_of n s i
    unfolding step_of
    long_enough t h e = lt_no (length s) (head_size + to_come s) (short_step n s i) (full_step n s (whole s)) h (ap (full_step n s) (sym e))

module _ {l e : List ℕ} {r : Stepped} where
  pub tells : {x y : Step} → x ≡ y → Tells x l r e → Tells y l r e
  tells q p = subst (λ (z : Step). Tells z l r e) q p

  -- nothing follows the lines that were put
  pub tells_over : {lines : List ℕ} {m : ℕ} → Put lines l 0 m e → (r.taken ≡ 0) × ((r.put ≡ m) × (r.next ≡ Over)) → Tells (over lines) l r e
  tells_over {lines} {m} p q = record { puts = subst (λ (k : ℕ). Put lines l 0 k e) (sym q.1.0) p; taken = q.0; next = q.1.1 }
