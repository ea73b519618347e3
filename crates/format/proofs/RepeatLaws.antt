-- Laws that turn what stands several times into what code computes.
use Prim.Native.Nat.{ℕ, zero, suc, ◌+◌, ◌-◌, ◌*◌, ◌≤◌, ◌<◌}
use mathlib.Core.Path.{◌≡◌, refl, sym, ap, ◌∙◌}
use mathlib.Core.Logic.{⊎_elim}
use native.Mathlib.Nat.{eq-zero-or-pos, mul-zero, mul-suc}
use native.Mathlib.Numerals.{sub-one}
use native.Mathlib.Omega.{arith}
use lib.ListN.{replicate}
use borrow.Author.Tests.{lt-ltb, le-ltb}
use Rattle.std.specs.Prelude.{Ok, Err}
use Rattle.bytes_at.specs.Walks.{bits_to, fields_to, then, many, ends, Walk}
use Rattle.bytes_at.proofs.WalkLaws.{seq_bad, seq_to, bits_on, bits_past}
use Rattle.format.specs.Lawful.{unto, total}
use Rattle.format.proofs.StepLaws.{fields_fit}

-- ---- runs of n entries of m fields of one byte each: nothing in them is read, so they are one step; the byte that is missing
-- first is the one at the container's end
total_eights : (m : ℕ) → total (replicate m 8) ≡ 8 * m
total_eights zero = refl
total_eights (suc m) = omega (arith, total_eights m)

bits_run : (m p at end : ℕ) → p ≡ 8 * at → at ≤ end → end < at + m → Err end ≡ bits_to (replicate m 8) p end
bits_run zero p at end e h k = absurd (omega arith)
bits_run (suc m) p at end e h k = ⊎_elim
    (λ t. bits_past 8 (replicate m 8) p end end (omega arith) (omega arith))
    (λ t. bits_on 8 (replicate m 8) p end (omega arith) (bits_run m (p + 8) (at + 1) end (omega arith) (omega arith) (omega arith)))
    (eq-zero-or-pos (end - at))

row_past : (m at end : ℕ) → at ≤ end → end < at + m → Err end ≡ fields_to (replicate m 8) at end
unfolding fields_to
row_past m at end = bits_run m (8 * at) at end refl

row_fits : (m at end : ℕ) → at + m ≤ end → Ok (at + m) ≡ fields_to (replicate m 8) at end
row_fits m at end h = sym (fields_fit (replicate m 8) m (total_eights m) at end h)

module _ (m end : ℕ) where
  pub run_fits : (n at : ℕ) → at + m * n ≤ end → Ok (at + m * n) ≡ many (λ a. fields_to (replicate m 8) a end) n at
  unfolding many
  run_fits zero at h = ap Ok (omega (arith, mul-zero m))
  run_fits (suc n) at h =
      let j = mul-suc m n in
      seq_to _ (row_fits m at end (omega arith)) refl (ap Ok (omega arith) ∙ run_fits n (at + m) (omega arith))

  pub run_past : (n at : ℕ) → at ≤ end → end < at + m * n → Err end ≡ many (λ a. fields_to (replicate m 8) a end) n at
  unfolding many
  run_past zero at h k = absurd (omega (arith, mul-zero m))
  run_past (suc n) at h k =
      let j = mul-suc m n in
      ⊎_elim
      (λ t. seq_to _ (row_fits m at end (omega arith)) refl (run_past n (at + m) (omega arith) (omega arith)))
      (λ t. seq_bad _ (row_past m at end h (omega arith)) refl)
      (eq-zero-or-pos (at + m - end))

-- ---- until the container's end, for any number f of steps that is enough
module _ (p : ℕ → ℕ → Walk) where
  -- no byte is left
  pub list_none : (f end at : ℕ) → end ≤ at → ends end at ≡ unto p f end at
  unfolding unto
  list_none zero end at h = refl
  list_none (suc f) end at h = rw (le-ltb at end h)

  -- a first one and the rest
  pub list_first : (f end at : ℕ) → at < end → end ≤ at + f → then (p end at) (unto p (f - 1) end) ≡ unto p f end at
  unfolding unto
  list_first zero end at h k = absurd (omega arith)
  list_first (suc f) end at h k = rw (lt-ltb at end h, sub-one)
