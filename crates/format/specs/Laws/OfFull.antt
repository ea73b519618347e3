-- What has a head is not empty.
use Rattle.std.specs.Prelude.{ℕ, suc, ◌+◌, ◌*◌, ◌^◌, ◌<◌, ◌≡◌, refl, List, [], ◌∷◌, length}
use Rattle.std.proofs.Common.{arith, length-append}
use Rattle.format.specs.Formats.{Format, Filling, Reader, last_byte, last_but_one, both, Full, filled_by, times}
use Rattle.format.specs.Values.{One, Field, bits, width, Vals, number, head_bytes}
use Rattle.format.specs.Laws.OfValues.{bytes_length}
use Rattle.format.specs.Heads.{Tells}
use Rattle.format.specs.Laws.OfTold.{last_tells, tag_tells}
use Rattle.format.specs.Told.{told, counting, tagged}

pub told_full : {C : Type 0} (fs : List Field) (n k : ℕ) (whole : width fs + n ≡ 8 * k) (r : Reader k C) (c : Vals fs → ℕ → C) (tells : Tells fs n k r c)
    (f : Format C) (tally : f.Val → ℕ) (is : (v : Vals fs) (m : ℕ) (x : f.Val) → f.Formed (c v m) x → tally x ≡ m) → 0 < k
    → Full (told fs n k whole r c tells f tally is)
told_full fs n k whole r c tells f tally is h x o =
    omega (arith, length-append (head_bytes fs n k x.0 (tally x.1)) (f.enc x.1), bytes_length k (number fs x.0 * 2 ^ n + tally x.1))

pub counting_full : (fs : List Field) (k : ℕ) (whole : width fs + 8 ≡ 8 * suc k) (f : Format One) → Full (counting fs k whole f)
counting_full fs k whole f = told_full fs 8 (suc k) whole last_byte (λ v m. m) (last_tells fs k whole) (times f) (λ x. length x) (λ v m x o. o.0) (omega arith)

pub tagged_full : (f : Filling ℕ) → Full (tagged f)
tagged_full f =
    told_full (bits 8 ∷ []) 8 2 refl (both last_byte last_but_one) (λ v m. (m, v.0)) tag_tells (filled_by 1 f) (λ x. length (f.enc x)) (λ v m x o. o.0)
    (omega arith)
