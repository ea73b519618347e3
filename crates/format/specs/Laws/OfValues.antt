-- Laws of fields: bytes and values stand for each other, and what is read where the bytes lie is the values.
use Rattle.std.specs.Prelude.{ℕ, zero, suc, ◌+◌, ◌*◌, ◌/◌, ◌%◌, ◌^◌, ◌≤◌, ◌<◌, ◌≡◌, refl, List, [], ◌∷◌, length, take, drop}
use Rattle.std.proofs.Common.{sym, ap, ◌∙◌, suc-mul, mul-le-mul_right, mod-lt, add-one, arith, pow_pos, pow-add, shr_lt, drop-cons}
use Rattle.std.proofs.Math.Pow.{high, low, split}
use Rattle.bytes_at.specs.Fields.{byte_at}
use Rattle.format.specs.Lawful.{Lies}
use Rattle.format.specs.Repeats.{Bytes}
use Rattle.format.specs.Laws.OfBytes.{lies_at, lies_split, lies_byte}
use Rattle.bytes_at.specs.Bits.{bits_at, field_at}
use Rattle.bytes_at.proofs.BitLaws.{bits_lt, bits_add, byte_bits_lem}
use Rattle.format.specs.Values.{Field, bits_of, width, Vals, Fit, number, bytes_of}
use Rattle.format.specs.Heads.{vals_at}

-- ---- two numbers, one of them in the n low bits
pub pair_lt : (a w n b : ℕ) → a < 2 ^ w → b < 2 ^ n → a * 2 ^ n + b < 2 ^ (w + n)
pair_lt a w n b h k = omega (arith, pow-add 2 w n, mul-le-mul_right (2 ^ n) h, suc-mul a (2 ^ n))

pub pair_same : (n a b x y : ℕ) → b < 2 ^ n → y < 2 ^ n → a * 2 ^ n + b ≡ x * 2 ^ n + y → (a ≡ x) × (b ≡ y)
pair_same n a b x y h k e = (
  sym (high a n h) ∙ ap (λ m. m / 2 ^ n) e ∙ high x n k,
  sym (low a n h) ∙ ap (λ m. m % 2 ^ n) e ∙ low x n k,
)

-- ---- values and their number
pub number_lt : (fs : List Field) (v : Vals fs) → Fit fs v → number fs v < 2 ^ width fs
number_lt [] v o = omega arith
number_lt (f ∷ fs) v o = pair_lt v.0 (bits_of f) (width fs) (number fs v.1) o.0 (number_lt fs v.1 o.1)

pub number_once : (fs : List Field) (u v : Vals fs) → Fit fs u → Fit fs v → number fs u ≡ number fs v → u ≡ v
number_once [] u v o r e = refl
number_once (f ∷ fs) u v o r e =
    let p = pair_same (width fs) u.0 _ v.0 _ (number_lt fs u.1 o.1) (number_lt fs v.1 r.1) e in
    let q = number_once fs u.1 v.1 o.1 r.1 p.1 in
    λ i. (p.0 i, q i)

pub vals_fit : (fs : List Field) (s : List ℕ) (at o : ℕ) → Fit fs (vals_at fs s at o)
vals_fit [] s at o = record {}
vals_fit (f ∷ fs) s at o = (bits_lt s (8 * at + o) (bits_of f), vals_fit fs s at (o + bits_of f))

vals_from : (fs : List Field) (s : List ℕ) (at o : ℕ) → number fs (vals_at fs s at o) ≡ field_at s at o (width fs)
unfolding bits_at
vals_from [] s at o = refl
vals_from (f ∷ fs) s at o =
    let e : 8 * at + (o + bits_of f) ≡ 8 * at + o + bits_of f = omega arith in
    ap (λ m. field_at s at o (bits_of f) * 2 ^ width fs + m) (vals_from fs s at (o + bits_of f) ∙ ap (λ p. bits_at s p (width fs)) e)
    ∙ sym (bits_add s (8 * at + o) (bits_of f) (width fs))

pub vals_number : (fs : List Field) (s : List ℕ) (at : ℕ) → number fs (vals_at fs s at 0) ≡ bits_at s (8 * at) (width fs)
vals_number fs s at = vals_from fs s at 0 ∙ ap (λ p. bits_at s p (width fs)) (omega arith)

-- ---- a number and its bytes
eight : (k : ℕ) → 8 * suc k ≡ 8 + 8 * k
eight k = omega arith

pub bytes_length : (k n : ℕ) → length (bytes_of k n) ≡ k
unfolding bytes_of
bytes_length zero n = refl
bytes_length (suc k) n = ap suc (bytes_length k (n % 2 ^ (8 * k)))

pub bytes_bytes : (k n : ℕ) → n < 2 ^ (8 * k) → Bytes (bytes_of k n)
unfolding bytes_of
bytes_bytes zero n h i = omega arith
bytes_bytes (suc k) n h zero = shr_lt 8 (8 * k) (rw (eight k) at h)
bytes_bytes (suc k) n h (suc i) = bytes_bytes k (n % 2 ^ (8 * k)) (mod-lt n (pow_pos (8 * k))) i

bits_suc : (k : ℕ) (s : List ℕ) (at : ℕ) → byte_at s at < 256
    → bits_at s (8 * at) (8 * suc k) ≡ byte_at s at * 2 ^ (8 * k) + bits_at s (8 * suc at) (8 * k)
bits_suc k s at h =
    let e : 8 * at + 8 ≡ 8 * suc at = omega arith in
    ap (bits_at s (8 * at)) (eight k) ∙ bits_add s (8 * at) 8 (8 * k)
    ∙ ap (λ b. b * 2 ^ (8 * k) + bits_at s (8 * at + 8) (8 * k)) (byte_bits_lem s at h)
    ∙ ap (λ p. byte_at s at * 2 ^ (8 * k) + bits_at s p (8 * k)) e

-- where the bytes of a number lie, it stands
pub lies_number : (k n : ℕ) (s : List ℕ) (at : ℕ) → n < 2 ^ (8 * k) → Lies (bytes_of k n) s at → bits_at s (8 * at) (8 * k) ≡ n
unfolding bytes_of bits_at
lies_number zero n s at h l = omega arith
lies_number (suc k) n s at h l =
    let b = n / 2 ^ (8 * k) in
    let m = n % 2 ^ (8 * k) in
    let g : b < 256 = shr_lt 8 (8 * k) (rw (eight k) at h) in
    let i = lies_split (b ∷ []) (bytes_of k m) s at l in
    let e = lies_byte (b ∷ []) s at at 0 i.0 (omega arith) (omega arith) in
    let t = lies_number k m s (suc at) (mod-lt n (pow_pos (8 * k))) (lies_at (bytes_of k m) s (at + 1) (suc at) (add-one at) i.1) in
    bits_suc k s at (omega arith) ∙ ap (λ x. x * 2 ^ (8 * k) + bits_at s (8 * suc at) (8 * k)) e ∙ ap (λ x. b * 2 ^ (8 * k) + x) t
    ∙ split n (8 * k)

-- the bytes of the number that stands in k bytes are they
pub bytes_part : (k : ℕ) (s : List ℕ) (at : ℕ) → Bytes s → at + k ≤ length s → bytes_of k (bits_at s (8 * at) (8 * k)) ≡ take k (drop at s)
unfolding bytes_of
bytes_part zero s at z h = refl
bytes_part (suc k) s at z h =
    let e = bits_suc k s at (z at) in
    let r = bits_lt s (8 * suc at) (8 * k) in
    let hi = ap (λ n. n / 2 ^ (8 * k)) e ∙ high (byte_at s at) (8 * k) r in
    let lo = ap (λ n. n % 2 ^ (8 * k)) e ∙ low (byte_at s at) (8 * k) r in
    let t = ap (bytes_of k) lo ∙ bytes_part k s (suc at) z (omega arith) in
    (λ i. hi i ∷ t i) ∙ ap (take (suc k)) (sym (drop-cons s at 0 (omega arith)))
