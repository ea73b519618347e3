-- Formats with a head whose last field is a length or a count of what follows. The value has the other fields and what follows; the last field is no value of its
-- own, for `tally` tells it of what follows. Of `told fs n k .. c .. f tally ..`, with fields fs, a last one of n bits, k bytes in all, and a format f of which the
-- head tells c: a value is (v, x), a number for each of the fields fs and a value of f; its bytes are `head_bytes fs n k v (tally x) ++ f.enc x`; it is well formed
-- where `OkTold` says so. What else stands in `of_told` is proof.
use Rattle.std.specs.Prelude.{ℕ, suc, ◌+◌, ◌*◌, ◌%◌, ◌^◌, ◌≡◌, refl, List, [], ◌∷◌, ◌++◌, length}
use Rattle.std.proofs.Common.{sym, ap, arith}
use Rattle.format.specs.Repeats.{Bytes}
use Rattle.format.specs.Formats.{Format, Filling, Reader, Recast, last_byte, last_but_one, last_word, both, through, head_by, raw, filled, filled_by, times, one_or_more, via}
use Rattle.bytes_at.proofs.BitLaws.{word_bits}
use Rattle.format.specs.Values.{One, Field, bits, reserved, width, Vals, head_bytes}
use Rattle.format.specs.Heads.{steps, vals_at, Tells, OkTold}
use Rattle.format.specs.Laws.OfValues.{bytes_length, bytes_bytes}
use Rattle.format.specs.Laws.OfTold.{steps_whole_by, head_below, told_good, told_onto, told_once, last_tells, low16_tells, low8_tells, tag_tells}

-- ---- the head and what it tells of
module _ {C : Type 0} (fs : List Field) (n k : ℕ) (whole : width fs + n ≡ 8 * k) (r : Reader k C) (c : Vals fs → ℕ → C)
    (tells : Tells fs n k r c) (f : Format C) (tally : f.Val → ℕ) (is : (v : Vals fs) (m : ℕ) (x : f.Val) → f.Formed (c v m) x → tally x ≡ m) where
  abbrev pub of_told : Recast (List ℕ × f.Val) (λ x. ((length x.0 ≡ k) × Bytes x.0) × f.Formed (r.read x.0 k) x.1) (Vals fs × f.Val) (OkTold fs n c f tally)
  of_told = record {
    to = λ y. (head_bytes fs n k y.0 (tally y.1), y.1);
    good = λ y o. (
      (bytes_length k _, bytes_bytes k _ (head_below fs n k whole y.0 (tally y.1) o.0 o.1.0)),
      told_good fs n k whole r c tells f tally is y.0 y.1 o,
    );
    onto = λ x o.
        let u = told_onto fs n k whole r c tells f tally is x.0 x.1 o.0.0 o.0.1 o.1 in
        ((vals_at fs x.0 0 0, x.1), (u.0, λ i. (u.1 i, x.1)));
    inj = λ y z o w e.
        let q = ap (λ (p : List ℕ × f.Val). p.1) e in
        let p = told_once fs n k whole r c tells f tally is y.0 z.0 y.1 z.1 o w (ap (λ (p : List ℕ × f.Val). p.0) e) in
        λ i. (p i, q i);
  }

  abbrev pub told : Format One
  told = via (head_by (steps (fs ++ (bits n ∷ []))) k (steps_whole_by fs n k whole) r f) of_told

-- ---- lengths and counts of 8 bits after fields, together k + 1 bytes
module _ (fs : List Field) (k : ℕ) (whole : width fs + 8 ≡ 8 * suc k) where
  -- and so many bytes
  abbrev pub raws : Format One
  raws = told fs 8 (suc k) whole last_byte (λ v m. m) (last_tells fs k whole) (raw 1) (λ x. length x) (λ v m x o. o.0)

  -- and what fills so many bytes
  abbrev pub sizing : Filling One → Format One
  sizing f = told fs 8 (suc k) whole last_byte (λ v m. m) (last_tells fs k whole) (filled 1 f) (λ x. length (f.enc x)) (λ v m x o. o.0)

  -- and as many
  abbrev pub counting : Format One → Format One
  counting f = told fs 8 (suc k) whole last_byte (λ v m. m) (last_tells fs k whole) (times f) (λ x. length x) (λ v m x o. o.0)

-- a count in the n last bits of a byte, after fields, and as many; the same where it may not be 0
module _ (fs : List Field) (n : ℕ) (whole : width fs + n ≡ 8) where
  abbrev pub few : Format One → Format One
  few f = told fs n 1 whole (through (λ x. x % 2 ^ n) last_byte) (λ v m. m) (low8_tells fs 0 (width fs) n whole (omega arith)) (times f) (λ x. length x)
      (λ v m x o. o.0)

  abbrev pub few_not_none : Format One → Format One
  few_not_none f = told fs n 1 whole (through (λ x. x % 2 ^ n) last_byte) (λ v m. m) (low8_tells fs 0 (width fs) n whole (omega arith)) (one_or_more 1 f)
      (λ x. length x) (λ v m x o. o.1.0)

-- a count of 8 bits that may not be 0, and as many
abbrev pub not_none : Format One → Format One
not_none f = told [] 8 1 refl last_byte (λ v m. m) (last_tells [] 0 refl) (one_or_more 1 f) (λ x. length x) (λ v m x o. o.1.0)

-- a count of 16 bits, and as many
abbrev pub counted16 : Format One → Format One
counted16 f = told [] 16 2 refl last_word (λ v m. m) (λ h l z. sym (word_bits h z 0)) (times f) (λ x. length x) (λ v m x o. o.0)

abbrev pub sized8 : Filling One → Format One
sized8 f = sizing [] 0 refl f

abbrev pub counted8 : Format One → Format One
counted8 f = counting [] 0 refl f

-- 4 reserved bits, a length of 12, and what fills it
abbrev pub sized12 : Filling One → Format One
sized12 f =
    told (reserved 4 ∷ []) 12 2 refl (through (λ n. n % 4096) last_word) (λ v m. m) (low16_tells (reserved 4 ∷ []) 0 4 12 refl refl) (filled 2 f)
    (λ x. length (f.enc x)) (λ v m x o. o.0)

-- 6 reserved bits, a length of 10, and what fills it
abbrev pub sized10 : Filling One → Format One
sized10 f =
    told (reserved 6 ∷ []) 10 2 refl (through (λ n. n % 1024) last_word) (λ v m. m) (low16_tells (reserved 6 ∷ []) 0 6 10 refl refl) (filled 2 f)
    (λ x. length (f.enc x)) (λ v m x o. o.0)

-- a tag and a length, of 8 bits each, and so many bytes, which an f fills that is well formed for the tag
abbrev pub tagged : Filling ℕ → Format One
tagged f =
    told (bits 8 ∷ []) 8 2 refl (both last_byte last_but_one) (λ v m. (m, v.0)) tag_tells (filled_by 1 f) (λ x. length (f.enc x)) (λ v m x o. o.0)
