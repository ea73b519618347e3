-- The loops of eight shifts, of which the compiler makes tables. That of `byte_in` takes bits 0. Those of src/tables.rt multiply a byte by a
-- constant of their own; where that is what e bits 0 make of the register 1, the product stands for the byte after e bits 0.
-- Assumes nothing.
use mathlib.Core.Path.{◌≡◌, refl, sym, ap, ap₂, ◌∙◌, subst}
use Prim.Native.Nat.{ℕ, zero, suc, ◌+◌, ◌-◌, ◌*◌, ◌/◌, ◌%◌, ◌^◌, ◌<◌, ◌≤◌}
use native.Mathlib.Nat.{add-zero, add_comm, zero-add, suc-add, mul-one, mul-zero, zero-mul, one-mul, mod-lt, mul-le-mul_left}
use native.Mathlib.Numerals.{one-add}
use native.Mathlib.Omega.{arith}
use lib.Pow.{pow_pos, pow-add, pow_mono, pow-lt, shr_lt, split}
use lib.Bits.{bit_xor, xor_shr, xor_mod, xor_zero_l, xor_zero_r, xor_self, xor_shifted, xor_block, xor_lt}
use Rattle.checksum.specs.Register.{bit_in}
use Rattle.checksum.specs.Ahead.{StandsFor}
use Rattle.checksum.proofs.Xor.{bit_cases, xor_swap, xor_double}
use Rattle.checksum.proofs.Steps.{zeros, zeros_suc, zeros_xor, zeros_zeros, zeros_of_zero}
use Rattle.checksum.proofs.Ahead.{sum, ahead, zeros_low, double}

pub zero_more : (n i q q' g : ℕ) → i < n → q' ≡ bit_in q 0 → zeros (n - i) q ≡ g → zeros (n - (i + 1)) q' ≡ g
zero_more n i q q' g h e l =
    let k : suc (n - (i + 1)) ≡ n - i = omega arith in
    ap (zeros (n - (i + 1))) e ∙ sym (zeros_suc (n - (i + 1)) q) ∙ ap (λ (m : ℕ). zeros m q) k ∙ l

-- ---- the loop with a constant

-- one turn of a register of 64 bits: it shifts left by one, and takes up g where the bit shifted out is 1
unfoldable pub turn : ℕ → ℕ → ℕ
turn g q = bit_xor (q * 2 % 2 ^ 64) (g * (q / 2 ^ 63 % 2))

unfoldable pub turns : ℕ → ℕ → ℕ → ℕ
turns zero g q = q
turns (suc n) g q = turns n g (turn g q)

-- the turns that are left lead to the product
abbrev pub Left : ℕ → ℕ → ℕ → ℕ → Type 0
Left g y q i = (q < 2 ^ 64) × (turns (8 - i) g q ≡ turns 8 g (y * 2 ^ 56 % 2 ^ 64))

turn_low : (g q : ℕ) → q < 2 ^ 63 → q * 2 % 2 ^ 64 ≡ turn g q
unfolding turn
turn_low g q h =
    let e : q / 2 ^ 63 % 2 ≡ 0 = omega arith in
    sym (ap (λ (b : ℕ). bit_xor (q * 2 % 2 ^ 64) (g * b)) e ∙ ap (bit_xor (q * 2 % 2 ^ 64)) (mul-zero g) ∙ xor_zero_r (q * 2 % 2 ^ 64))

turn_high : (g q : ℕ) → 2 ^ 63 ≤ q → q < 2 ^ 64 → bit_xor (q * 2 % 2 ^ 64) g ≡ turn g q
unfolding turn
turn_high g q h l =
    let e : 1 ≡ q / 2 ^ 63 % 2 = omega arith in
    ap (bit_xor (q * 2 % 2 ^ 64)) (sym (mul-one g) ∙ ap (λ (b : ℕ). g * b) e)

turn_lt : (g q : ℕ) → g < 2 ^ 64 → turn g q < 2 ^ 64
unfolding turn
turn_lt g q h =
    let b = q / 2 ^ 63 % 2 in
    xor_lt 64 (q * 2 % 2 ^ 64) (g * b) (omega arith)
    (bit_cases (λ (x : ℕ). g * x < 2 ^ 64) (omega (arith, mul-zero g)) (subst (λ (x : ℕ). x < 2 ^ 64) (sym (mul-one g)) h) b (omega arith))

left_more : (g y q q' i : ℕ) → g < 2 ^ 64 → i < 8 → q' ≡ turn g q → Left g y q i → Left g y q' (i + 1)
unfolding turns
left_more g y q q' i hg h e l =
    let k : suc (8 - (i + 1)) ≡ 8 - i = omega arith in
    (subst (λ (x : ℕ). x < 2 ^ 64) (sym e) (turn_lt g q hg), ap (turns (8 - (i + 1)) g) e ∙ ap (λ (m : ℕ). turns m g q) k ∙ l.1)

pub left_low : (g y q q' i : ℕ) → g < 2 ^ 64 → i < 8 → Left g y q i → q < 2 ^ 63 → q' ≡ q * 2 % 2 ^ 64 → Left g y q' (i + 1)
left_low g y q q' i hg h l low e = left_more g y q q' i hg h (e ∙ turn_low g q low) l

pub left_high : (g y q q' i : ℕ) → g < 2 ^ 64 → i < 8 → Left g y q i → 2 ^ 63 ≤ q → q' ≡ bit_xor (q * 2 % 2 ^ 64) g → Left g y q' (i + 1)
left_high g y q q' i hg h l high e = left_more g y q q' i hg h (e ∙ turn_high g q high l.0) l

-- ---- turns of two registers added

bit_times : (g x y : ℕ) → x < 2 → y < 2 → g * bit_xor x y ≡ bit_xor (g * x) (g * y)
bit_times g x y hx hy =
    bit_cases (λ (b : ℕ). g * bit_xor b y ≡ bit_xor (g * b) (g * y))
    (ap (λ (w : ℕ). g * w) (xor_zero_l y) ∙ sym (ap (λ (w : ℕ). bit_xor w (g * y)) (mul-zero g) ∙ xor_zero_l (g * y)))
    (bit_cases (λ (b : ℕ). g * bit_xor 1 b ≡ bit_xor (g * 1) (g * b))
    (sym (ap (bit_xor (g * 1)) (mul-zero g) ∙ xor_zero_r (g * 1)))
    (mul-zero g ∙ sym (xor_self (g * 1)))
    y hy)
    x hx

turn_xor : (g a b : ℕ) → turn g (bit_xor a b) ≡ bit_xor (turn g a) (turn g b)
unfolding turn
turn_xor g a b =
    let x = a / 2 ^ 63 in
    let y = b / 2 ^ 63 in
    ap₂ bit_xor (ap (λ (w : ℕ). w % 2 ^ 64) (xor_double a b) ∙ xor_mod (a * 2) (b * 2) 64)
    (ap (λ (w : ℕ). g * (w % 2)) (xor_shr a b 63) ∙ ap (λ (w : ℕ). g * w) (xor_mod x y 1) ∙ bit_times g (x % 2) (y % 2) (omega arith) (omega arith))
    ∙ xor_swap (a * 2 % 2 ^ 64) (b * 2 % 2 ^ 64) (g * (x % 2)) (g * (y % 2))

turns_xor : (n g a b : ℕ) → turns n g (bit_xor a b) ≡ bit_xor (turns n g a) (turns n g b)
unfolding turns
turns_xor zero g a b = refl
turns_xor (suc n) g a b = ap (turns n g) (turn_xor g a b) ∙ turns_xor n g (turn g a) (turn g b)

-- ---- turns of a single bit

turns_turn : (n g q : ℕ) → turns n g (turn g q) ≡ turn g (turns n g q)
unfolding turns
turns_turn zero g q = refl
turns_turn (suc n) g q = turns_turn n g (turn g q)

turns_low : (n g q : ℕ) → q * 2 ^ n < 2 ^ 64 → turns n g q ≡ q * 2 ^ n
unfolding turns
turns_low zero g q h = sym (mul-one q)
turns_low (suc n) g q h =
    let m = q * 2 ^ n in
    let twice : m * 2 < 2 ^ 64 = subst (λ (x : ℕ). x < 2 ^ 64) (double q n) h in
    let e : m * 2 ≡ m * 2 % 2 ^ 64 = omega arith in
    turns_turn n g q ∙ ap (turn g) (turns_low n g q (omega arith)) ∙ sym (turn_low g m (omega arith)) ∙ sym e ∙ sym (double q n)

turns_cut : (j k g q : ℕ) → turns (j + suc k) g q ≡ turns k g (turn g (turns j g q))
unfolding turns
turns_cut zero k g q = ap (λ (n : ℕ). turns n g q) (zero-add (suc k))
turns_cut (suc j) k g q = ap (λ (n : ℕ). turns n g q) (suc-add j (suc k)) ∙ turns_cut j k g (turn g q)

top_bit : (k j : ℕ) → j + suc k ≡ 8 → 2 ^ k * 2 ^ 56 * 2 ^ j ≡ 2 ^ 63
top_bit k j e =
    let n : k + 56 + j ≡ 63 = omega arith in
    ap (λ (x : ℕ). x * 2 ^ j) (sym (pow-add 2 k 56)) ∙ sym (pow-add 2 (k + 56) j) ∙ ap (λ (m : ℕ). 2 ^ m) n

top_turn : (g : ℕ) → turn g (2 ^ 63) ≡ g
top_turn g = sym (turn_high g (2 ^ 63) (omega arith) (omega arith)) ∙ xor_zero_l g

shifted_lt : (g k : ℕ) → g < 2 ^ 32 → k < 8 → g * 2 ^ k < 2 ^ 39 + 1
shifted_lt g k h less =
    let small : 2 ^ k ≤ 2 ^ 7 = pow_mono {i = k} {j = 7} (omega arith) in
    omega (arith, mul-le-mul_left g small)

-- the bit is shifted out, and the constant goes on in its place
bit_turns : (g k j : ℕ) → g < 2 ^ 32 → j + suc k ≡ 8 → turns 8 g (2 ^ k * 2 ^ 56) ≡ g * 2 ^ k
bit_turns g k j h e =
    let less : 2 ^ k * 2 ^ 56 * 2 ^ j < 2 ^ 64 = omega (arith, top_bit k j e) in
    ap (λ (n : ℕ). turns n g (2 ^ k * 2 ^ 56)) (sym e) ∙ turns_cut j k g (2 ^ k * 2 ^ 56)
    ∙ ap (λ (q : ℕ). turns k g (turn g q)) (turns_low j g (2 ^ k * 2 ^ 56) less ∙ top_bit k j e) ∙ ap (turns k g) (top_turn g)
    ∙ turns_low k g g (omega (arith, shifted_lt g k h (omega arith)))

-- ---- every byte, from its bits

-- the byte x, turned, stands for the register x after e bits 0
abbrev Turned : ℕ → ℕ → ℕ → Type 0
Turned e g x = StandsFor (zeros e x) (turns 8 g (x * 2 ^ 56))

module _ (e g : ℕ) (constant : zeros e 1 ≡ g) (less : g < 2 ^ 32) where
  bit_zeros : (k : ℕ) → k < 8 → zeros k g ≡ zeros e (2 ^ k)
  bit_zeros k h =
      ap (zeros k) (sym constant) ∙ zeros_zeros k e 1 ∙ ap (λ (n : ℕ). zeros n 1) (add_comm e k) ∙ sym (zeros_zeros e k 1)
      ∙ ap (zeros e) (zeros_low k 1 (omega (arith, pow-lt {i = k} {j = 32} (omega arith))) ∙ one-mul (2 ^ k))

  turned_bit : (k : ℕ) → k < 8 → Turned e g (2 ^ k)
  turned_bit k h =
      subst (λ (u : ℕ). StandsFor u (turns 8 g (2 ^ k * 2 ^ 56))) (bit_zeros k h)
      (subst (StandsFor (zeros k g)) (sym (bit_turns g k (7 - k) less (omega arith))) (ahead k g less (omega (arith, shifted_lt g k less h))))

  turned_both : (a b : ℕ) → Turned e g a → Turned e g b → Turned e g (bit_xor a b)
  turned_both a b p q =
      let shifted : bit_xor (a * 2 ^ 56) (b * 2 ^ 56) ≡ bit_xor a b * 2 ^ 56 = simp add-zero at (xor_block 56 a b 0 0 (pow_pos 56) (pow_pos 56)) in
      subst (StandsFor (zeros e (bit_xor a b))) (sym (turns_xor 8 g (a * 2 ^ 56) (b * 2 ^ 56)) ∙ ap (turns 8 g) shifted)
      (subst (λ (u : ℕ). StandsFor u (bit_xor (turns 8 g (a * 2 ^ 56)) (turns 8 g (b * 2 ^ 56)))) (sym (zeros_xor e a b))
      (sum (zeros e a) (zeros e b) (turns 8 g (a * 2 ^ 56)) (turns 8 g (b * 2 ^ 56)) p q))

  turned_none : Turned e g 0
  turned_none =
      subst (λ (u : ℕ). StandsFor u (turns 8 g 0)) (sym (zeros_of_zero e))
      (subst (StandsFor 0) (sym (turns_low 8 g 0 (omega arith))) (subst (λ (u : ℕ). StandsFor u 0) (zeros_of_zero 0) (ahead 0 0 (omega arith) (omega arith))))

  turned_below : (n x : ℕ) → n ≤ 8 → x < 2 ^ n → Turned e g x
  turned_below zero x hn h =
      let none : 0 ≡ x = omega arith in
      subst (Turned e g) none turned_none
  turned_below (suc n) x hn h =
      let t = x / 2 ^ n in
      let lo = x % 2 ^ n in
      let below : lo < 2 ^ n = mod-lt x (pow_pos n) in
      let whole : bit_xor (t * 2 ^ n) lo ≡ x = xor_shifted t n lo below ∙ split x n in
      let bit : t < 2 = shr_lt 1 n (subst (λ (m : ℕ). x < 2 ^ m) (sym (one-add n)) h) in
      let top : Turned e g (t * 2 ^ n) =
      bit_cases (λ (b : ℕ). Turned e g (b * 2 ^ n)) (subst (Turned e g) (sym (zero-mul (2 ^ n))) turned_none)
      (subst (Turned e g) (sym (one-mul (2 ^ n))) (turned_bit n (omega arith))) t bit in
      subst (Turned e g) whole (turned_both (t * 2 ^ n) lo top (turned_below n lo (omega arith) below))

  -- the loop, done
  pub turned : (y q i : ℕ) → 8 ≤ i → Left g y q i → StandsFor (zeros e (y % 256)) q
  unfolding turns
  turned y q i h l =
      let byte : y % 256 * 2 ^ 56 ≡ y * 2 ^ 56 % 2 ^ 64 = omega arith in
      let over : 0 ≡ 8 - i = omega arith in
      subst (StandsFor (zeros e (y % 256))) (ap (turns 8 g) byte ∙ sym (ap (λ (n : ℕ). turns n g q) over ∙ l.1))
      (turned_below 8 (y % 256) (omega arith) (omega arith))
