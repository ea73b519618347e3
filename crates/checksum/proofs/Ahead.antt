-- Numbers that stand for a register: added, shifted, and eight bits ahead of bytes that go in.
-- Assumes nothing.
use mathlib.Core.Path.{◌≡◌, refl, sym, ap, ap₂, ◌∙◌, subst}
use Prim.Native.Nat.{ℕ, zero, suc, ◌+◌, ◌*◌, ◌/◌, ◌%◌, ◌^◌, ◌<◌}
use native.Mathlib.Nat.{mul-one, mul_assoc, pow-suc}
use native.Mathlib.Omega.{arith}
use lib.Bits.{bit_xor, xor_shr, xor_mod, xor_zero_l, xor_zero_r, xor_shifted, xor_lt, xor_comm}
use Rattle.checksum.specs.Register.{poly, bit_in, bits_in}
use Rattle.checksum.specs.Ahead.{rest, StandsFor}
use Rattle.checksum.proofs.Xor.{bit_cases, xor_assoc, xor_swap, xor_first}
use Rattle.checksum.proofs.Steps.{zeros, zeros_none, zeros_suc, zeros_bit, zeros_xor, zeros_zeros, zeros_of_zero, bit_low, bit_xor_lem, bits_xor, byte_zeros}

-- ---- added

rest_xor : (a b : ℕ) → rest (bit_xor a b) ≡ bit_xor (rest a) (rest b)
rest_xor a b =
    ap₂ bit_xor (ap (zeros 32) (xor_shr a b 32) ∙ zeros_xor 32 (a / 2 ^ 32) (b / 2 ^ 32)) (xor_mod a b 32)
    ∙ xor_swap (zeros 32 (a / 2 ^ 32)) (zeros 32 (b / 2 ^ 32)) (a % 2 ^ 32) (b % 2 ^ 32)

pub sum : (u v a b : ℕ) → StandsFor u a → StandsFor v b → StandsFor (bit_xor u v) (bit_xor a b)
sum u v a b p q = (xor_lt 40 a b p.0 q.0, rest_xor a b ∙ ap₂ bit_xor p.1 q.1)

-- ---- shifted

rest_low : (l : ℕ) → l < 2 ^ 32 → rest l ≡ l
rest_low l h =
    let hi : l / 2 ^ 32 ≡ 0 = omega arith in
    let lo : l % 2 ^ 32 ≡ l = omega arith in
    ap₂ (λ (u v : ℕ). bit_xor (zeros 32 u) v) hi lo ∙ ap (λ (u : ℕ). bit_xor u l) (zeros_of_zero 32) ∙ xor_zero_l l

-- the bit above 31 comes back as the polynomial
bit_out : (b : ℕ) → b < 2 → zeros 32 b ≡ poly * b
unfolding bits_in bit_in poly
bit_out b h = bit_cases (λ (x : ℕ). zeros 32 x ≡ poly * x) refl refl b h

rest_double : (a : ℕ) → a < 2 ^ 63 → rest (a * 2) ≡ bit_in (rest a) 0
unfolding bit_in
rest_double a less =
    let h = a / 2 ^ 32 in
    let l = a % 2 ^ 32 in
    let b = l / 2 ^ 31 in
    let z = zeros 32 (h * 2) in
    let d = l * 2 % 2 ^ 32 in
    let hi : a * 2 / 2 ^ 32 ≡ h * 2 + b = omega arith in
    let lo : a * 2 % 2 ^ 32 ≡ d = omega arith in
    let top : b ≡ (b + 0) % 2 = omega arith in
    let up : z ≡ bit_in (zeros 32 h) 0 = ap (zeros 32) (sym (bit_low h (omega arith))) ∙ zeros_bit 32 h in
    ap₂ (λ (u v : ℕ). bit_xor (zeros 32 u) v) (hi ∙ sym (xor_shifted h 1 b (omega arith))) lo
    ∙ ap (λ (u : ℕ). bit_xor u d) (zeros_xor 32 (h * 2) b ∙ ap (bit_xor z) (bit_out b (omega arith))) ∙ xor_assoc z (poly * b) d
    ∙ ap₂ bit_xor up (xor_comm (poly * b) d ∙ ap (λ (x : ℕ). bit_xor d (poly * x)) top) ∙ sym (bit_xor_lem (zeros 32 h) l 0)

pub double : (l k : ℕ) → l * 2 ^ suc k ≡ l * 2 ^ k * 2
double l k = ap (λ (x : ℕ). l * x) (pow-suc 2 k) ∙ sym (mul_assoc l (2 ^ k) 2)

-- a register shifted up stands for itself, so many bits ahead
pub ahead : (k r : ℕ) → r < 2 ^ 32 → r * 2 ^ k < 2 ^ 40 → StandsFor (zeros k r) (r * 2 ^ k)
ahead zero r h less = (less, ap rest (mul-one r) ∙ rest_low r h ∙ sym (zeros_none r))
ahead (suc k) r h less =
    let m = r * 2 ^ k in
    let twice : m * 2 < 2 ^ 40 = subst (λ (x : ℕ). x < 2 ^ 40) (double r k) less in
    (less, ap rest (double r k) ∙ rest_double m (omega arith) ∙ ap (λ (x : ℕ). bit_in x 0) (ahead k r h (omega arith)).1 ∙ sym (zeros_suc k r ∙ zeros_bit k r))

-- and where nothing is shifted out it is that register
pub zeros_low : (k l : ℕ) → l * 2 ^ k < 2 ^ 32 → zeros k l ≡ l * 2 ^ k
zeros_low zero l h = zeros_none l ∙ sym (mul-one l)
zeros_low (suc k) l h =
    let m = l * 2 ^ k in
    let twice : m * 2 < 2 ^ 32 = subst (λ (x : ℕ). x < 2 ^ 32) (double l k) h in
    zeros_suc k l ∙ zeros_bit k l ∙ ap (λ (x : ℕ). bit_in x 0) (zeros_low k l (omega arith)) ∙ bit_low m (omega arith) ∙ sym (double l k)

-- a number of 40 bits is a register shifted up, and a byte
pub cut : (a : ℕ) → a < 2 ^ 40 → rest a ≡ bit_xor (zeros 8 (a / 2 ^ 8)) (a % 256)
cut a h =
    let v = a / 2 ^ 8 in
    let l = a % 256 in
    let whole : a ≡ v * 2 ^ 8 + l = omega arith in
    ap rest (whole ∙ sym (xor_shifted v 8 l (omega arith))) ∙ rest_xor (v * 2 ^ 8) l
    ∙ ap₂ bit_xor (ahead 8 v (omega arith) (omega arith)).1 (rest_low l (omega arith))

-- ---- bytes go in

byte_alone : (x : ℕ) → bits_in 8 x 0 ≡ zeros 32 (x % 256)
byte_alone x =
    byte_zeros x 0 ∙ ap (zeros 8) (xor_zero_l (x % 256 * 2 ^ 24) ∙ sym (zeros_low 24 (x % 256) (omega arith))) ∙ zeros_zeros 8 24 (x % 256)

-- a byte is added to the top of the number, and comes back
byte_ahead : (q a x : ℕ) → StandsFor (zeros 8 q) a → bits_in 8 x q ≡ bit_xor (zeros 32 (bit_xor (a / 2 ^ 32) x % 256)) (a % 2 ^ 32)
byte_ahead q a x h =
    let hi = a / 2 ^ 32 in
    let lo = a % 2 ^ 32 in
    let z = zeros 32 hi in
    let y = zeros 32 (x % 256) in
    let less : a < 2 ^ 40 = h.0 in
    let byte : hi ≡ hi % 256 = omega (arith, less) in
    ap (bits_in 8 x) (sym (xor_zero_r q)) ∙ bits_xor 8 x q 0 ∙ ap₂ bit_xor (sym h.1) (byte_alone x)
    ∙ xor_first z lo y
    ∙ ap (λ (w : ℕ). bit_xor w lo)
    (sym (zeros_xor 32 hi (x % 256)) ∙ ap (zeros 32) (ap (λ (w : ℕ). bit_xor w (x % 256)) byte ∙ sym (xor_mod hi x 8)))

-- a register that a byte goes into is its own number, shifted up; v is its top byte, with other bits above
byte_over : (r v x : ℕ) → r < 2 ^ 32 → r / 2 ^ 24 ≡ v % 256 → bits_in 8 x r ≡ bit_xor (zeros 32 (bit_xor v x % 256)) (r * 2 ^ 8 % 2 ^ 32)
byte_over r v x h e =
    let top : r * 2 ^ 8 / 2 ^ 32 % 256 ≡ v % 256 = omega (arith, e) in
    byte_ahead r (r * 2 ^ 8) x (ahead 8 r h (omega arith))
    ∙ ap (λ (w : ℕ). bit_xor (zeros 32 w) (r * 2 ^ 8 % 2 ^ 32))
    (xor_mod (r * 2 ^ 8 / 2 ^ 32) x 8 ∙ ap (λ (w : ℕ). bit_xor w (x % 256)) top ∙ sym (xor_mod v x 8))

pub come_back : (u y l b : ℕ) → u ≡ bit_xor (zeros 32 y) l → l < 2 ^ 32 → StandsFor (zeros 40 y) b → StandsFor (zeros 8 u) (bit_xor b (l * 2 ^ 8))
come_back u y l b e h p =
    subst (λ (w : ℕ). StandsFor w (bit_xor b (l * 2 ^ 8)))
    (sym (ap (zeros 8) e ∙ zeros_xor 8 (zeros 32 y) l ∙ ap (λ (w : ℕ). bit_xor w (zeros 8 l)) (zeros_zeros 8 32 y)))
    (sum (zeros 40 y) (zeros 8 l) b (l * 2 ^ 8) p (ahead 8 l h (omega arith)))

pub one_more : (q a x b : ℕ) → StandsFor (zeros 8 q) a → StandsFor (zeros 40 (bit_xor (a / 2 ^ 32) x % 256)) b
    → StandsFor (zeros 8 (bits_in 8 x q)) (bit_xor b (a % 2 ^ 32 * 2 ^ 8 % 2 ^ 64))
one_more q a x b h p =
    let l = a % 2 ^ 32 in
    let e : l * 2 ^ 8 ≡ l * 2 ^ 8 % 2 ^ 64 = omega arith in
    subst (λ (c : ℕ). StandsFor (zeros 8 (bits_in 8 x q)) (bit_xor b c)) e
    (come_back (bits_in 8 x q) (bit_xor (a / 2 ^ 32) x % 256) l b (byte_ahead q a x h) (omega arith) p)

second_byte : (a : ℕ) → a % 2 ^ 32 / 2 ^ 24 ≡ a / 2 ^ 24 % 256
second_byte a = omega arith

pub two_more : (q a x y b d : ℕ) → StandsFor (zeros 8 q) a → StandsFor (zeros 48 (bit_xor (a / 2 ^ 32) x % 256)) b
    → StandsFor (zeros 40 (bit_xor (a / 2 ^ 24) y % 256)) d
    → StandsFor (zeros 8 (bits_in 8 y (bits_in 8 x q))) (bit_xor b (bit_xor d (a % 2 ^ 24 * 2 ^ 16 % 2 ^ 64)))
two_more q a x y b d h p r =
    let z = bit_xor (a / 2 ^ 32) x % 256 in
    let l = a % 2 ^ 32 in
    let m = l * 2 ^ 8 % 2 ^ 32 in
    let k = bits_in 8 y l in
    let e : m * 2 ^ 8 ≡ a % 2 ^ 24 * 2 ^ 16 % 2 ^ 64 = omega arith in
    let first : bits_in 8 y (bits_in 8 x q) ≡ bit_xor (zeros 40 z) k =
    ap (bits_in 8 y) (byte_ahead q a x h) ∙ bits_xor 8 y (zeros 32 z) l ∙ ap (λ (w : ℕ). bit_xor w k) (zeros_zeros 8 32 z) in
    let next : StandsFor (zeros 8 k) (bit_xor d (m * 2 ^ 8)) =
    come_back k (bit_xor (a / 2 ^ 24) y % 256) m d (byte_over l (a / 2 ^ 24) y (omega arith) (second_byte a)) (omega arith) r in
    subst (λ (c : ℕ). StandsFor (zeros 8 (bits_in 8 y (bits_in 8 x q))) (bit_xor b (bit_xor d c))) e
    (subst (λ (w : ℕ). StandsFor w (bit_xor b (bit_xor d (m * 2 ^ 8))))
    (sym (ap (zeros 8) first ∙ zeros_xor 8 (zeros 40 z) k ∙ ap (λ (w : ℕ). bit_xor w (zeros 8 k)) (zeros_zeros 8 40 z)))
    (sum (zeros 48 z) (zeros 8 k) b (bit_xor d (m * 2 ^ 8)) p next))

top_byte : (t : ℕ) → t < 256 → t * 2 ^ 24 % 2 ^ 32 / 2 ^ 24 ≡ t % 256
top_byte t h = omega arith

-- the last byte: the register itself again
pub last_byte : (q a x p : ℕ) → StandsFor (zeros 8 q) a → p ≡ bits_in 8 x (a / 2 ^ 32 * 2 ^ 24 % 2 ^ 32) → bit_xor p (a % 2 ^ 32) ≡ bits_in 8 x q
last_byte q a x p h e =
    let less : a < 2 ^ 40 = h.0 in
    let t = a / 2 ^ 32 in
    let r = t * 2 ^ 24 % 2 ^ 32 in
    let y = zeros 32 (bit_xor t x % 256) in
    let top : r ≡ t * 2 ^ 24 = omega (arith, less) in
    let none : r * 2 ^ 8 % 2 ^ 32 ≡ 0 = omega (arith, top) in
    ap (λ (w : ℕ). bit_xor w (a % 2 ^ 32)) (e ∙ byte_over r t x (omega arith) (top_byte t (omega arith)) ∙ ap (bit_xor y) none ∙ xor_zero_r y)
    ∙ sym (byte_ahead q a x h)
