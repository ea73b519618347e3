-- Two bytes hold the eight bits from any place on.
use mathlib.Core.Path.{◌≡◌, refl, sym, ap, ap₂, ◌∙◌}
use mathlib.Core.Bool.{Bool, true, false}
use mathlib.Core.List.{List}
use Prim.Native.Nat.{ℕ, zero, suc, ◌+◌, ◌*◌, ◌-◌, ◌/◌, ◌%◌, ◌^◌, ◌<◌, ◌≤◌}
use native.Mathlib.Nat.{add-zero, zero-add, one-mul, mul_assoc, suc-add, pow-succ', div-div-eq-div-mul}
use native.Mathlib.Numerals.{add-one}
use native.Mathlib.Omega.{arith}
use lib.Dec.{ltb}
use lib.ListN.{length, get_or, take, drop}
use borrow.Author.Tests.{ltb-true, ltb-false}
use Rattle.segment.specs.Bits.{all_bits, number_of_bits}
use Rattle.segment.specs.Inner.{Window}
use Rattle.segment.proofs.BitLaws.{length_bits, bit_at, number_more, number_all}

power_add : (m i : ℕ) → 2 ^ (m + i) ≡ 2 ^ m * 2 ^ i
power_add zero i = rw (zero-add, one-mul)
power_add (suc m) i = rw (suc-add, pow-succ' 2 (m + i), pow-succ' 2 m, power_add m i, mul_assoc)

-- bit i of the low byte
low_bit : (y i : ℕ) → i < 8 → y % 256 / 2 ^ i % 2 ≡ y / 2 ^ i % 2
low_bit y zero l = omega arith
low_bit y (suc zero) l = omega arith
low_bit y (suc (suc zero)) l = omega arith
low_bit y (suc (suc (suc zero))) l = omega arith
low_bit y (suc (suc (suc (suc zero)))) l = omega arith
low_bit y (suc (suc (suc (suc (suc zero))))) l = omega arith
low_bit y (suc (suc (suc (suc (suc (suc zero)))))) l = omega arith
low_bit y (suc (suc (suc (suc (suc (suc (suc zero))))))) l = omega arith
low_bit y (suc (suc (suc (suc (suc (suc (suc (suc i)))))))) l = absurd (omega arith)

-- bit i and bit 8 + i of two bytes
second_bit : (a b i : ℕ) → i < 8 → (256 * a + b) / 2 ^ i % 2 ≡ b / 2 ^ i % 2
second_bit a b zero l = omega arith
second_bit a b (suc zero) l = omega arith
second_bit a b (suc (suc zero)) l = omega arith
second_bit a b (suc (suc (suc zero))) l = omega arith
second_bit a b (suc (suc (suc (suc zero)))) l = omega arith
second_bit a b (suc (suc (suc (suc (suc zero))))) l = omega arith
second_bit a b (suc (suc (suc (suc (suc (suc zero)))))) l = omega arith
second_bit a b (suc (suc (suc (suc (suc (suc (suc zero))))))) l = omega arith
second_bit a b (suc (suc (suc (suc (suc (suc (suc (suc i)))))))) l = absurd (omega arith)

first_bit : (a b i : ℕ) → b < 256 → (256 * a + b) / 2 ^ (8 + i) % 2 ≡ a / 2 ^ i % 2
first_bit a b i l =
    let e : (256 * a + b) / 256 ≡ a = omega arith in
    ap (λ (x : ℕ). (256 * a + b) / x % 2) (power_add 8 i) ∙ ap (λ (x : ℕ). x % 2) (sym (div-div-eq-div-mul (256 * a + b) 256 (2 ^ i)))
    ∙ ap (λ (x : ℕ). x / 2 ^ i % 2) e

-- bit j of the eight from place m of the first byte on
window_bit : (x m j : ℕ) → j < 8 → x / 2 ^ (8 - m) % 256 / 2 ^ (7 - j) % 2 ≡ x / 2 ^ ((8 - m) + (7 - j)) % 2
window_bit x m j l =
    low_bit (x / 2 ^ (8 - m)) (7 - j) (omega arith) ∙ ap (λ (y : ℕ). y % 2) (div-div-eq-div-mul x (2 ^ (8 - m)) (2 ^ (7 - j)))
    ∙ ap (λ (y : ℕ). x / y % 2) (sym (power_add (8 - m) (7 - j)))

module _ (s : List ℕ) (at a b : ℕ) (first : a ≡ get_or s (at / 8) 0) (second : b ≡ get_or s (at / 8 + 1) 0) (small : b < 256) where
  bit_by : (j : ℕ) → j < 8 → (x : Bool) → ltb (at % 8 + j) 8 ≡ x
      → (256 * a + b) / 2 ^ ((8 - at % 8) + (7 - j)) % 2 ≡ get_or (all_bits s) (at + j) 0
  bit_by j l true q =
      let h : at % 8 + j < 8 = ltb-true (at % 8 + j) 8 q in
      let e : (8 - at % 8) + (7 - j) ≡ 8 + (7 - (at % 8 + j)) = omega arith in
      let f : (at + j) / 8 ≡ at / 8 = omega arith in
      let g : (at + j) % 8 ≡ at % 8 + j = omega arith in
      ap (λ (y : ℕ). (256 * a + b) / 2 ^ y % 2) e ∙ first_bit a b (7 - (at % 8 + j)) small
      ∙ ap (λ (y : ℕ). y / 2 ^ (7 - (at % 8 + j)) % 2) first
      ∙ sym (bit_at s (at + j) ∙ ap₂ (λ (y z : ℕ). get_or s y 0 / 2 ^ (7 - z) % 2) f g)
  bit_by j l false q =
      let h : 8 ≤ at % 8 + j = ltb-false (at % 8 + j) 8 q in
      let e : (8 - at % 8) + (7 - j) ≡ 7 - (at % 8 + j - 8) = omega arith in
      let f : (at + j) / 8 ≡ at / 8 + 1 = omega arith in
      let g : (at + j) % 8 ≡ at % 8 + j - 8 = omega arith in
      ap (λ (y : ℕ). (256 * a + b) / 2 ^ y % 2) e ∙ second_bit a b (7 - (at % 8 + j - 8)) (omega arith)
      ∙ ap (λ (y : ℕ). y / 2 ^ (7 - (at % 8 + j - 8)) % 2) second
      ∙ sym (bit_at s (at + j) ∙ ap₂ (λ (y z : ℕ). get_or s y 0 / 2 ^ (7 - z) % 2) f g)

  pub window_made : Window s at ((256 * a + b) / 2 ^ (8 - at % 8) % 256)
  window_made = record {
    bit = λ j l. window_bit (256 * a + b) (at % 8) j l ∙ bit_by j l (ltb (at % 8 + j) 8) refl;
    small = omega arith;
  }

-- the number that the eight bits are
halve : (w i : ℕ) → i < 8 → 2 * (w / 2 ^ (8 - i)) + w / 2 ^ (7 - i) % 2 ≡ w / 2 ^ (8 - (i + 1))
halve w zero l = omega arith
halve w (suc zero) l = omega arith
halve w (suc (suc zero)) l = omega arith
halve w (suc (suc (suc zero))) l = omega arith
halve w (suc (suc (suc (suc zero)))) l = omega arith
halve w (suc (suc (suc (suc (suc zero))))) l = omega arith
halve w (suc (suc (suc (suc (suc (suc zero)))))) l = omega arith
halve w (suc (suc (suc (suc (suc (suc (suc zero))))))) l = omega arith
halve w (suc (suc (suc (suc (suc (suc (suc (suc i)))))))) l = absurd (omega arith)

module _ (s : List ℕ) (at w : ℕ) (z : Window s at w) (h : at + 8 ≤ 8 * length s) where
  so_far : (i : ℕ) → i ≤ 8
      → number_of_bits 0 (take 8 (drop at (all_bits s))) ≡ number_of_bits (w / 2 ^ (8 - i)) (take (8 - i) (drop (at + i) (all_bits s)))
  so_far zero l =
      let e : w / 256 ≡ 0 = omega (arith, z.small) in
      rw (add-zero, e)
  so_far (suc i) l =
      let b : at + i < length (all_bits s) = omega (arith, length_bits s) in
      so_far i (omega arith) ∙ number_more (all_bits s) at i (w / 2 ^ (8 - i)) (omega arith) b
      ∙ ap (λ (x : ℕ). number_of_bits (2 * (w / 2 ^ (8 - i)) + x) (take (8 - (i + 1)) (drop (at + (i + 1)) (all_bits s)))) (sym (z.bit i (omega arith)))
      ∙ ap (λ (x : ℕ). number_of_bits x (take (8 - (i + 1)) (drop (at + (i + 1)) (all_bits s)))) (halve w i (omega arith)) ∙ rw add-one

  pub eight_bits : w ≡ number_of_bits 0 (take 8 (drop at (all_bits s)))
  eight_bits =
      let e : w / 1 ≡ w = omega arith in
      sym (so_far 8 (omega arith) ∙ number_all (drop (at + 8) (all_bits s)) 8 (w / 1) (omega arith) ∙ e)
