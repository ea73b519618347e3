-- Laws of the number in some bits: how it is put together and cut, and what the usual expressions over bytes are.
use Prim.Native.Nat.{ℕ, zero, suc, ◌+◌, ◌-◌, ◌*◌, ◌/◌, ◌%◌, ◌^◌, ◌≤◌, ◌<◌}
use mathlib.Core.Path.{◌≡◌, sym, ap, ◌∙◌}
use mathlib.Core.List.{List}
use native.Mathlib.Nat.{pow-suc, mul_assoc}
use native.Mathlib.Omega.{arith}
use lib.Pow.{high, low, shr-shr}
use lib.ListN.{length}
use Rattle.bytes_at.specs.Fields.{byte_at, word_at}
use Rattle.bytes_at.specs.Inner.{long_at}
use Rattle.bytes_at.proofs.FieldLaws.{past}
use Rattle.bytes_at.specs.Bits.{bit_at, bits_at, field_at}

bit_lt : (s : List ℕ) (p : ℕ) → bit_at s p < 2
unfolding bit_at
bit_lt s p = omega arith

shift_suc : (x k : ℕ) → x * 2 ^ suc k ≡ x * 2 ^ k * 2
shift_suc x k = ap (λ y. x * y) (pow-suc 2 k) ∙ sym (mul_assoc x (2 ^ k) 2)

module _ (s : List ℕ) (p : ℕ) where
  pub bits_lt : (w : ℕ) → bits_at s p w < 2 ^ w
  unfolding bits_at
  bits_lt zero = omega arith
  bits_lt (suc w) = omega (arith, bits_lt w, pow-suc 2 w, bit_lt s (p + w))

  -- the bits of one width, and of another after it
  pub bits_add : (a b : ℕ) → bits_at s p (a + b) ≡ bits_at s p a * 2 ^ b + bits_at s (p + a) b
  unfolding bits_at
  bits_add a zero = let e : a + 0 ≡ a = omega arith in omega (arith, ap (bits_at s p) e)
  bits_add a (suc b) =
      let e : a + suc b ≡ suc (a + b) = omega arith in
      let f : p + (a + b) ≡ p + a + b = omega arith in
      ap (bits_at s p) e ∙ omega (arith, ap (bit_at s) f, bits_add a b, shift_suc (bits_at s p a) b)

-- a number x of bits, cut: its high bits, its low bits, and those between
module _ (s : List ℕ) (p : ℕ) where
  pub bits_high : (a b x : ℕ) → bits_at s p (a + b) ≡ x → bits_at s p a ≡ x / 2 ^ b
  bits_high a b x e = sym (high (bits_at s p a) b (bits_lt s (p + a) b)) ∙ ap (λ y. y / 2 ^ b) (sym (bits_add s p a b) ∙ e)

  pub bits_low : (a b x : ℕ) → bits_at s p (a + b) ≡ x → bits_at s (p + a) b ≡ x % 2 ^ b
  bits_low a b x e = sym (low (bits_at s p a) b (bits_lt s (p + a) b)) ∙ ap (λ y. y % 2 ^ b) (sym (bits_add s p a b) ∙ e)

  pub bits_mid : (a w b x : ℕ) → bits_at s p (a + w + b) ≡ x → bits_at s (p + a) w ≡ x / 2 ^ b % 2 ^ w
  bits_mid a w b x e = bits_low a w (x / 2 ^ b) (bits_high (a + w) b x e)

-- ---- what stands at byte i
bit_of : (s : List ℕ) (i j : ℕ) → j < 8 → bit_at s (8 * i + j) ≡ byte_at s i / 2 ^ (7 - j) % 2
unfolding bit_at
bit_of s i j h =
    let q : (8 * i + j) / 8 ≡ i = omega arith in
    let r : (8 * i + j) % 8 ≡ j = omega arith in
    rw (q, r)

module _ (s : List ℕ) (i : ℕ) (h : byte_at s i < 256) where
  -- the first j bits of a byte
  byte_front : (j : ℕ) → j ≤ 8 → bits_at s (8 * i) j ≡ byte_at s i / 2 ^ (8 - j)
  unfolding bits_at
  byte_front zero l = omega arith
  byte_front (suc j) l =
      let e : 8 - j ≡ 7 - j + 1 = omega arith in
      let f : 7 - j ≡ 8 - suc j = omega arith in
      let y = byte_at s i / 2 ^ (7 - j) in
      let a : bits_at s (8 * i) j ≡ y / 2 = byte_front j (omega arith) ∙ ap (λ m. byte_at s i / 2 ^ m) e ∙ sym (shr-shr (byte_at s i) (7 - j) 1) in
      let b : bit_at s (8 * i + j) ≡ y % 2 = bit_of s i j (omega arith) in
      let c : bits_at s (8 * i) j * 2 + bit_at s (8 * i + j) ≡ y = omega arith in
      c ∙ ap (λ m. byte_at s i / 2 ^ m) f

  pub byte_bits_lem : bits_at s (8 * i) 8 ≡ byte_at s i
  byte_bits_lem = byte_front 8 (omega arith) ∙ omega arith

-- a byte that code read, and two bytes or two words that it put together
pub byte_is : (s : List ℕ) (i r : ℕ) → r ≡ byte_at s i → r < 256 → bits_at s (8 * i) 8 ≡ r
byte_is s i r e h = byte_bits_lem s i (omega arith) ∙ sym e

pub word_is : (s : List ℕ) (i a b : ℕ) → bits_at s (8 * i) 8 ≡ a → bits_at s (8 * (i + 1)) 8 ≡ b → bits_at s (8 * i) 16 ≡ a * 256 + b
word_is s i a b e f =
    let g : 8 * i + 8 ≡ 8 * (i + 1) = omega arith in
    omega (arith, bits_add s (8 * i) 8 8, ap (λ p. bits_at s p 8) g)

pub long_is : (s : List ℕ) (i a b : ℕ) → bits_at s (8 * i) 16 ≡ a → bits_at s (8 * (i + 2)) 16 ≡ b → bits_at s (8 * i) 32 ≡ a * 65536 + b
long_is s i a b e f =
    let g : 8 * i + 16 ≡ 8 * (i + 2) = omega arith in
    omega (arith, bits_add s (8 * i) 16 16, ap (λ p. bits_at s p 16) g)

-- past the end there are zeros
pub byte_past : (s : List ℕ) (i : ℕ) → length s ≤ i → bits_at s (8 * i) 8 ≡ 0
byte_past s i h = byte_is s i 0 (sym (past s i h)) (omega arith)

pub word_past : (s : List ℕ) (i : ℕ) → length s ≤ i → bits_at s (8 * i) 16 ≡ 0
word_past s i h = word_is s i 0 0 (byte_past s i h) (byte_past s (i + 1) (omega arith))

pub long_past : (s : List ℕ) (i : ℕ) → length s ≤ i → bits_at s (8 * i) 32 ≡ 0
long_past s i h = long_is s i 0 0 (word_past s i h) (word_past s (i + 2) (omega arith))

-- the same of lists whose numbers are bytes
pub word_bits : (s : List ℕ) → ((j : ℕ) → byte_at s j < 256) → (i : ℕ) → bits_at s (8 * i) 16 ≡ word_at s i
word_bits s z i = word_is s i (byte_at s i) (byte_at s (i + 1)) (byte_bits_lem s i (z i)) (byte_bits_lem s (i + 1) (z (i + 1)))

pub long_bits : (s : List ℕ) → ((j : ℕ) → byte_at s j < 256) → (i : ℕ) → bits_at s (8 * i) 32 ≡ long_at s i
long_bits s z i = long_is s i (word_at s i) (word_at s (i + 2)) (word_bits s z i) (word_bits s z (i + 2))

-- ---- expressions over bytes, as fields: x is the number that begins at byte i, which is j bytes after a
module _ (s : List ℕ) (a i j : ℕ) (e : i ≡ a + j) where
  place : (m : ℕ) → 8 * i + m ≡ 8 * a + (8 * j + m)
  place m = omega arith

  pub all_at : {x : ℕ} (w : ℕ) → bits_at s (8 * i) w ≡ x → x ≡ field_at s a (8 * j) w
  all_at w f = sym f ∙ ap (λ p. bits_at s p w) (omega arith)

  pub high_at : {x : ℕ} (m n : ℕ) → bits_at s (8 * i) (m + n) ≡ x → x / 2 ^ n ≡ field_at s a (8 * j) m
  high_at {x} m n f = all_at m (bits_high s (8 * i) m n x f)

  pub low_at : {x : ℕ} (m n : ℕ) → bits_at s (8 * i) (m + n) ≡ x → x % 2 ^ n ≡ field_at s a (8 * j + m) n
  low_at {x} m n f = sym (bits_low s (8 * i) m n x f) ∙ ap (λ p. bits_at s p n) (place m)

  pub mid_at : {x : ℕ} (m w n : ℕ) → bits_at s (8 * i) (m + w + n) ≡ x → x / 2 ^ n % 2 ^ w ≡ field_at s a (8 * j + m) w
  mid_at {x} m w n f = sym (bits_mid s (8 * i) m w n x f) ∙ ap (λ p. bits_at s p w) (place m)

-- two that follow each other
pub join_at : (s : List ℕ) (a o m n : ℕ) {x y : ℕ} → x ≡ field_at s a o m → y ≡ field_at s a (o + m) n → x * 2 ^ n + y ≡ field_at s a o (m + n)
join_at s a o m n e f =
    let g : 8 * a + (o + m) ≡ 8 * a + o + m = omega arith in
    (λ i. e i * 2 ^ n + (f ∙ ap (λ p. bits_at s p n) g) i) ∙ sym (bits_add s (8 * a + o) m n)
