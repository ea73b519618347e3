-- What a step puts fits an output of 262,144 bytes, so an output of that size begins with all of it.
use Prim.Native.Nat.{ℕ, ◌+◌, ◌^◌, ◌≤◌, ◌<◌}
use mathlib.Core.Path.{◌≡◌, refl, ap, ◌∙◌}
use mathlib.Core.Bool.{Bool, true, false}
use mathlib.Core.List.{List}
use native.Mathlib.Omega.{arith}
use lib.ListN.{length, take, drop}
use lib.Seq.{sets-eq, take_at}
use Rattle.format.specs.Repeats.{Bytes}
use Rattle.record.specs.Records.{head_size, to_come, whole}
use Rattle.shown.proofs.BothLaws.{lt_either, eq_either}
use Rattle.lines.specs.Records.{last_line, bad_lines}
use Rattle.lines.proofs.FitLaws.{last_few, bad_few, record_few}
use Rattle.listing.specs.Steps.{Step, over, short_step, full_step, step_of, Tells}
use Rattle.listing.specs.declared.Input.{Input}
use Rattle.listing.specs.declared.Input.TheVariants.{More, Ended, Unread}
use Rattle.listing.specs.declared.Stepped.{Stepped}

abbrev Few : Step → Type 0
Few x = length x.lines ≤ 262144

module _ (n : ℕ) (s : List ℕ) (z : Bytes s) (h : n < 2 ^ 64) where
  short_fits : (i : Input) → Few (short_step n s i)
  unfolding short_step
  short_fits More = omega arith
  short_fits Ended = eq_either Few (over (last_line n)) (over (bad_lines n)) (omega (arith, last_few n h)) (omega (arith, bad_few n h)) (length s) 0
  short_fits Unread = omega (arith, bad_few n h)

  full_fits : (t : Bool) → Few (full_step n s t)
  unfolding full_step
  full_fits true = record_few n s z h
  full_fits false = omega (arith, bad_few n h)

  module _ (i : Input) where
    pub step_fits : length (step_of n s i).lines ≤ 262144
    unfolding step_of
    step_fits = lt_either Few (short_step n s i) (full_step n s (whole s)) (short_fits i) (full_fits (whole s)) (length s) (head_size + to_come s)

    pub all_put : {l e : List ℕ} {r : Stepped} → 262144 ≤ length l → Tells (step_of n s i) l r e → take r.put e ≡ (step_of n s i).lines
    all_put {l} {e} {r} g t =
        let ls = (step_of n s i).lines in
        let f = step_fits in
        let k : r.put ≡ length ls = omega (arith, t.puts.next, f, g) in
        ap (λ (m : ℕ). take m e) k
        ∙ ap (take (length ls)) (t.puts.puts ∙ sets-eq ls l 0 (omega (arith, f, g)))
        ∙ take_at ls (drop (0 + length ls) l) (length ls) refl
