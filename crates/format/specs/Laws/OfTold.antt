-- Heads whose last field tells of what follows: what is read where their bytes lie, and back; and how the usual readers read them.
use Rattle.std.specs.Prelude.{ℕ, suc, ◌+◌, ◌-◌, ◌*◌, ◌%◌, ◌^◌, ◌<◌, ◌≡◌, List, [], ◌∷◌, ◌++◌, length}
use Rattle.std.proofs.Common.{sym, ap, ◌∙◌, arith, take_all}
use Rattle.std.proofs.Math.Seq.{take-length}
use Rattle.bytes_at.specs.Fields.{byte_at, word_at}
use Rattle.format.specs.Lawful.{Lies, total}
use Rattle.format.specs.Repeats.{Bytes}
use Rattle.format.specs.Laws.OfBytes.{lies_at, lies_split}
use Rattle.format.specs.Laws.Statements.{Laws}
use Rattle.format.specs.Formats.{Format, Reader, last_byte, last_but_one, last_word, both, through}
use Rattle.bytes_at.specs.Bits.{bits_at}
use Rattle.bytes_at.proofs.BitLaws.{bits_lt, bits_add, bits_low, byte_bits_lem, word_bits}
use Rattle.format.specs.Values.{Field, bits, width, Vals, Fit, number, bytes_of, head_bytes}
use Rattle.format.specs.Heads.{steps, vals_at, Tells, OkTold}
use Rattle.format.specs.Laws.OfValues.{pair_lt, pair_same, number_lt, number_once, vals_fit, vals_number, bytes_length, bytes_bytes, lies_number, bytes_part}

width_more : (fs : List Field) (n : ℕ) → width (fs ++ (bits n ∷ [])) ≡ width fs + n
width_more [] n = omega arith
width_more (f ∷ fs) n = omega (arith, width_more fs n)

-- ---- the head alone
module _ (fs : List Field) (n k : ℕ) (whole : width fs + n ≡ 8 * k) where
  pub steps_whole_by : Laws → total (steps (fs ++ (bits n ∷ []))) ≡ 8 * k
  steps_whole_by w = w.steps_width (fs ++ (bits n ∷ [])) 0 ∙ omega (arith, width_more fs n)

  pub head_below : (v : Vals fs) (t : ℕ) → Fit fs v → t < 2 ^ n → number fs v * 2 ^ n + t < 2 ^ (8 * k)
  head_below v t o h = rw whole at (pair_lt (number fs v) (width fs) n t (number_lt fs v o) h)

  -- what is read where the bytes of a head lie is its values and the number after them
  pub head_there : (s : List ℕ) (at : ℕ) (v : Vals fs) (t : ℕ) → Fit fs v → t < 2 ^ n → Lies (head_bytes fs n k v t) s at
      → (vals_at fs s at 0 ≡ v) × (bits_at s (8 * at + width fs) n ≡ t)
  head_there s at v t o h l =
      let e = lies_number k (number fs v * 2 ^ n + t) s at (head_below v t o h) l in
      let f = sym (bits_add s (8 * at) (width fs) n) ∙ ap (bits_at s (8 * at)) whole ∙ e in
      let p = pair_same n _ _ (number fs v) t (bits_lt s (8 * at + width fs) n) h f in
      (number_once fs _ v (vals_fit fs s at 0) o (vals_number fs s at ∙ p.0), p.1)

  pub head_here : (v : Vals fs) (t : ℕ) → Fit fs v → t < 2 ^ n
      → (vals_at fs (head_bytes fs n k v t) 0 0 ≡ v) × (bits_at (head_bytes fs n k v t) (0 + width fs) n ≡ t)
  head_here v t o h = head_there (head_bytes fs n k v t) 0 v t o h (take-length (head_bytes fs n k v t))

  pub head_back : (x : List ℕ) → length x ≡ k → Bytes x → head_bytes fs n k (vals_at fs x 0 0) (bits_at x (0 + width fs) n) ≡ x
  head_back x h z =
      ap (λ m. bytes_of k (m * 2 ^ n + bits_at x (0 + width fs) n)) (vals_number fs x 0)
      ∙ ap (bytes_of k) (sym (bits_add x 0 (width fs) n) ∙ ap (bits_at x 0) whole)
      ∙ bytes_part k x 0 z (omega arith) ∙ take_all k x (omega arith)

-- ---- the head and what it tells of
module _ {C : Type 0} (fs : List Field) (n k : ℕ) (whole : width fs + n ≡ 8 * k) (r : Reader k C) (c : Vals fs → ℕ → C)
    (tells : Tells fs n k r c) (f : Format C) (tally : f.Val → ℕ) (is : (v : Vals fs) (m : ℕ) (x : f.Val) → f.Formed (c v m) x → tally x ≡ m) where
  pub told_good : (v : Vals fs) (x : f.Val) → OkTold fs n c f tally (v, x) → f.Formed (r.read (head_bytes fs n k v (tally x)) k) x
  told_good v x o =
      let b = head_bytes fs n k v (tally x) in
      let g = head_here fs n k whole v (tally x) o.0 o.1.0 in
      let e = tells b (bytes_length k _) (bytes_bytes k _ (head_below fs n k whole v (tally x) o.0 o.1.0)) in
      let q : r.read b k ≡ c v (tally x) = e ∙ (λ i. c (g.0 i) (g.1 i)) in
      rw q o.1.1

  pub told_onto : (h : List ℕ) (x : f.Val) → length h ≡ k → Bytes h → f.Formed (r.read h k) x
      → OkTold fs n c f tally (vals_at fs h 0 0, x) × (head_bytes fs n k (vals_at fs h 0 0) (tally x) ≡ h)
  told_onto h x l z o =
      let v = vals_at fs h 0 0 in
      let m = bits_at h (0 + width fs) n in
      let o1 : f.Formed (c v m) x = rw (tells h l z) at o in
      let q = is v m x o1 in
      let b : tally x < 2 ^ n = rw q (bits_lt h (0 + width fs) n) in
      let o2 : f.Formed (c v (tally x)) x = rw q o1 in
      ((vals_fit fs h 0 0, (b, o2)), ap (head_bytes fs n k v) q ∙ head_back fs n k whole h l z)

  pub told_once : (u v : Vals fs) (x y : f.Val) → OkTold fs n c f tally (u, x) → OkTold fs n c f tally (v, y)
      → head_bytes fs n k u (tally x) ≡ head_bytes fs n k v (tally y) → u ≡ v
  told_once u v x y o r e =
      sym (head_here fs n k whole u (tally x) o.0 o.1.0).0 ∙ ap (λ h. vals_at fs h 0 0) e
      ∙ (head_here fs n k whole v (tally y) r.0 r.1.0).0

  -- what is read where the encoding lies, and where what follows the head lies
  pub told_there : (s : List ℕ) (at : ℕ) (v : Vals fs) (x : f.Val) → OkTold fs n c f tally (v, x) → Lies (head_bytes fs n k v (tally x) ++ f.enc x) s at
      → ((vals_at fs s at 0 ≡ v) × (bits_at s (8 * at + width fs) n ≡ tally x)) × Lies (f.enc x) s (at + k)
  told_there s at v x o l =
      let i = lies_split (head_bytes fs n k v (tally x)) (f.enc x) s at l in (
        head_there fs n k whole s at v (tally x) o.0 o.1.0 i.0,
        lies_at (f.enc x) s _ _ (ap (at +◌) (bytes_length k _)) i.1,
      )

-- ---- the usual readers
-- the n low bits of the last byte, and of the last two
pub low8 : (h : List ℕ) (k m n : ℕ) → Bytes h → m + n ≡ 8 → byte_at h (suc k - 1) % 2 ^ n ≡ bits_at h (8 * k + m) n
low8 h k m n z e =
    let j : suc k - 1 ≡ k = omega arith in
    ap (λ i. byte_at h i % 2 ^ n) j ∙ sym (bits_low h (8 * k) m n (byte_at h k) (ap (bits_at h (8 * k)) e ∙ byte_bits_lem h k (z k)))

pub all8 : (h : List ℕ) (k : ℕ) → Bytes h → byte_at h (suc k - 1) ≡ bits_at h (8 * k) 8
all8 h k z = let j : suc k - 1 ≡ k = omega arith in ap (byte_at h) j ∙ sym (byte_bits_lem h k (z k))

pub low16 : (h : List ℕ) (k m n : ℕ) → Bytes h → m + n ≡ 16 → word_at h (suc (suc k) - 2) % 2 ^ n ≡ bits_at h (8 * k + m) n
low16 h k m n z e =
    let j : suc (suc k) - 2 ≡ k = omega arith in
    ap (λ i. word_at h i % 2 ^ n) j ∙ sym (bits_low h (8 * k) m n (word_at h k) (ap (bits_at h (8 * k)) e ∙ word_bits h z k))

pub last_tells : (fs : List Field) (k : ℕ) → width fs + 8 ≡ 8 * suc k → Tells fs 8 (suc k) last_byte (λ v m. m)
last_tells fs k whole h l z = let e : 8 * k ≡ 0 + width fs = omega arith in all8 h k z ∙ ap (λ p. bits_at h p 8) e

pub low16_tells : (fs : List Field) (k m n : ℕ) → m + n ≡ 16 → width fs ≡ 8 * k + m → Tells fs n (suc (suc k)) (through (λ x. x % 2 ^ n) last_word) (λ v m. m)
low16_tells fs k m n e f h l z = low16 h k m n z e ∙ ap (λ p. bits_at h p n) (omega arith)

pub low8_tells : (fs : List Field) (k m n : ℕ) → m + n ≡ 8 → width fs ≡ 8 * k + m → Tells fs n (suc k) (through (λ x. x % 2 ^ n) last_byte) (λ v m. m)
low8_tells fs k m n e f h l z = low8 h k m n z e ∙ ap (λ p. bits_at h p n) (omega arith)

pub tag_tells : Tells (bits 8 ∷ []) 8 2 (both last_byte last_but_one) (λ v m. (m, v.0))
tag_tells h l z = let a = all8 h 1 z in let b = all8 h 0 z in λ i. (a i, b i)
