-- The outcome of the pair at a place of the bits: one law for each way of going on.
use mathlib.Core.Path.{◌≡◌, refl, subst}
use mathlib.Core.List.{List}
use Prim.Native.Nat.{ℕ, zero, suc, ◌+◌, ◌*◌, ◌-◌, ◌<◌, ◌≤◌}
use native.Mathlib.Omega.{arith}
use lib.ListN.{length, take, drop, set, length-drop}
use lib.Seq.{drop-drop}
use Rattle.annex_c.specs.Codes.{Reading, early}
use Rattle.segment.specs.Bits.{all_bits, number_of_bits}
use Rattle.segment.specs.Inner.{units, SymbolAt, Finds, answer, PairOutcome, CodedAt, RawAt}
use Rattle.segment.specs.Segment.{ended_text, cut_text, coded_text, raw_text}
use Rattle.std.specs.Prelude.{Option, Some, None}
use Rattle.segment.proofs.BitLaws.{length_bits}
use Rattle.segment.proofs.TextLaws.{unit_stored}
use Rattle.segment.proofs.SegmentLaws.{ended_fits, cut_fits, coded_cut, coded_end, coded_escape, coded_character, raw_missing, raw_above, raw_plain, coded_none, raw_none, coded_step, raw_step}

-- the bits left at a place
left_at : (s : List ℕ) (i : ℕ) → length (drop i (all_bits s)) ≡ 8 * length s - i
left_at s i = simp (length-drop, length_bits)

cut_out : (n r left : ℕ) (l : List ℕ) → r ≡ answer n (cut_text left) → PairOutcome (cut_text left) n l r l
cut_out n r left l e = record { answers = e; stores = rw (cut_fits left 0).1 }

ended_out : (n r m : ℕ) (l : List ℕ) → r ≡ answer n (ended_text m) → PairOutcome (ended_text m) n l r l
ended_out n r m l e = record { answers = e; stores = rw (ended_fits m 0).1 }

-- what a find of this shape says
pub found_early : (read : ℕ → List ℕ → Reading) (s : List ℕ) (at p : ℕ) {f : Option (ℕ × ℕ)} → Finds read s at p f → f ≡ None → read p
    (drop at (all_bits s)) ≡ early
found_early read s at p z e = subst (λ (g : Option (ℕ × ℕ)). Finds read s at p g) e z

pub found_symbol : (read : ℕ → List ℕ → Reading) (s : List ℕ) (at p : ℕ) {f : Option (ℕ × ℕ)} {u j : ℕ} → Finds read s at p f → f ≡ Some (u, j)
    → SymbolAt read s at p u j
found_symbol read s at p z e = subst (λ (g : Option (ℕ × ℕ)). Finds read s at p g) e z

-- a coded symbol that the bits cut
pub coded_early : {read : ℕ → List ℕ → Reading} {s : List ℕ} {at p n r : ℕ} {l : List ℕ}
    → read p (drop at (all_bits s)) ≡ early → r ≡ answer n (cut_text (8 * length s - at)) → CodedAt read s at p n l r l
coded_early {read} {s} {at} {p} {n} {r} {l} e a = record { by = go }
  where
    go : (k : ℕ) → 8 * length s ≤ at + k → PairOutcome (coded_text read k p (drop at (all_bits s))) n l r l
    go zero h =
        let q : 8 * length s - at ≡ 0 = omega arith in
        rw (coded_none read p (drop at (all_bits s))) (cut_out n r 0 l (rw q at a))
    go (suc k) h = rw (coded_step read k p (drop at (all_bits s)), e, coded_cut, left_at s at) (cut_out n r (8 * length s - at) l a)

-- the end, the escape, and a character
module _ {read : ℕ → List ℕ → Reading} {s : List ℕ} {at p u j : ℕ} (z : SymbolAt read s at p u j) where
  pub coded_ended : {n r : ℕ} {l : List ℕ} → u ≡ 0 → r ≡ answer n (ended_text (8 * length s - j)) → CodedAt read s at p n l r l
  coded_ended {n} {r} {l} q a = record { by = go }
    where
      go : (k : ℕ) → 8 * length s ≤ at + k → PairOutcome (coded_text read k p (drop at (all_bits s))) n l r l
      go zero h = absurd (omega arith)
      go (suc k) h =
          rw (coded_step read k p (drop at (all_bits s)), z.reads, coded_end u (drop j (all_bits s)) q, left_at s j) (ended_out n r (8 * length s - j) l a)

  pub coded_raw : {n r : ℕ} {l e : List ℕ} → u ≡ 27 → RawAt read s j (8 * length s - at) n l r e → CodedAt read s at p n l r e
  coded_raw {n} {r} {l} {e} q o = record { by = go }
    where
      go : (k : ℕ) → 8 * length s ≤ at + k → PairOutcome (coded_text read k p (drop at (all_bits s))) n l r e
      go zero h = absurd (omega arith)
      go (suc k) h =
          rw (coded_step read k p (drop at (all_bits s)), z.reads, coded_escape u (drop j (all_bits s)) q, left_at s at) (o.by k (omega arith))

  pub coded_unit : {n r w : ℕ} {l e : List ℕ} → (u ≡ 0 → ⊥) → (u ≡ 27 → ⊥) → w ≡ u → CodedAt read s j u (n + 1) (set l n w) r e
      → CodedAt read s at p n l r e
  coded_unit {n} {r} {w} {l} {e} a b q o = record { by = go }
    where
      go : (k : ℕ) → 8 * length s ≤ at + k → PairOutcome (coded_text read k p (drop at (all_bits s))) n l r e
      go zero h = absurd (omega arith)
      go (suc k) h =
          rw (coded_step read k p (drop at (all_bits s)), z.reads, coded_character u (drop j (all_bits s)) a b)
          (unit_stored (coded_text read k u (drop j (all_bits s))) u w n r l e q (o.by k (omega arith)))

-- a raw character that the bits cut
pub raw_early : {read : ℕ → List ℕ → Reading} {s : List ℕ} {at left n r : ℕ} {l : List ℕ}
    → 8 * length s < at + 8 → r ≡ answer n (cut_text left) → RawAt read s at left n l r l
raw_early {read} {s} {at} {left} {n} {r} {l} i a = record { by = go }
  where
    go : (k : ℕ) → 8 * length s ≤ at + k → PairOutcome (raw_text read k left (drop at (all_bits s))) n l r l
    go zero h = rw (raw_none read left (drop at (all_bits s))) (cut_out n r left l a)
    go (suc k) h =
        rw (raw_step read k left (drop at (all_bits s)), raw_missing (drop at (all_bits s)) (rw (left_at s at) (omega arith))) (cut_out n r left l a)

-- a raw character above 127, and a plain one
eight_left : (s : List ℕ) (at : ℕ) → at + 8 ≤ 8 * length s → 8 ≤ length (drop at (all_bits s))
eight_left s at i = rw (left_at s at) (omega arith)

pub raw_broken : {read : ℕ → List ℕ → Reading} {s : List ℕ} {at left c n r : ℕ} {l : List ℕ}
    → at + 8 ≤ 8 * length s → c ≡ number_of_bits 0 (take 8 (drop at (all_bits s))) → 127 < c → r ≡ 4107 → RawAt read s at left n l r l
unfolding answer units
raw_broken {read} {s} {at} {left} {c} {n} {r} {l} i q b a = record { by = go }
  where
    go : (k : ℕ) → 8 * length s ≤ at + k → PairOutcome (raw_text read k left (drop at (all_bits s))) n l r l
    go zero h = absurd (omega arith)
    go (suc k) h =
        rw (raw_step read k left (drop at (all_bits s)), raw_above (drop at (all_bits s)) (eight_left s at i) (rw q at b))
        (record { answers = a; stores = refl })

pub raw_unit : {read : ℕ → List ℕ → Reading} {s : List ℕ} {at left c w n r : ℕ} {l e : List ℕ}
    → at + 8 ≤ 8 * length s → c ≡ number_of_bits 0 (take 8 (drop at (all_bits s))) → c ≤ 127 → w ≡ c
    → CodedAt read s (at + 8) c (n + 1) (set l n w) r e → RawAt read s at left n l r e
raw_unit {read} {s} {at} {left} {c} {w} {n} {r} {l} {e} i q b x o = record { by = go }
  where
    go : (k : ℕ) → 8 * length s ≤ at + k → PairOutcome (raw_text read k left (drop at (all_bits s))) n l r e
    go zero h = absurd (omega arith)
    go (suc k) h =
        rw (raw_step read k left (drop at (all_bits s)), raw_plain (drop at (all_bits s)) (eight_left s at i) (rw q at b), ← q, drop-drop 8 at (all_bits s))
        (unit_stored (coded_text read k c (drop (at + 8) (all_bits s))) c w n r l e x (o.by k (omega arith)))
