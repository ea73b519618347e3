-- Four bytes, and the number of 32 bits that they make: it goes in at once.
-- Assumes nothing.
use mathlib.Core.Path.{◌≡◌, refl, sym, ap, ◌∙◌}
use mathlib.Core.List.{[], ◌∷◌}
use Prim.Native.Nat.{ℕ, ◌+◌, ◌*◌, ◌/◌, ◌%◌, ◌^◌, ◌<◌}
use native.Mathlib.Nat.{mod-mod}
use native.Mathlib.Omega.{arith}
use lib.Bits.{bit_xor}
use Rattle.checksum.specs.Register.{bits_in, register_from, four_bytes}
use Rattle.checksum.proofs.Steps.{zeros, bits_bits, bits_zeros, byte_zeros}

byte_mod : (x r : ℕ) → bits_in 8 (x % 256) r ≡ bits_in 8 x r
byte_mod x r =
    byte_zeros (x % 256) r ∙ ap (λ (y : ℕ). zeros 8 (bit_xor r (y * 2 ^ 24))) (mod-mod x 256) ∙ sym (byte_zeros x r)

word_bits : (r w : ℕ) → register_from r (four_bytes w) ≡ bits_in 32 w r
unfolding register_from four_bytes
word_bits r w =
    simp byte_mod
    (sym (bits_bits 8 24 w r ∙ bits_bits 8 16 w (bits_in 8 (w / 2 ^ 24) r) ∙ bits_bits 8 8 w (bits_in 8 (w / 2 ^ 16) (bits_in 8 (w / 2 ^ 24) r))))

pub word_zeros : (r w : ℕ) → w < 2 ^ 32 → register_from r (four_bytes w) ≡ zeros 32 (bit_xor r w)
word_zeros r w h =
    let e : w % 2 ^ 32 * 2 ^ 0 ≡ w = omega arith in
    word_bits r w ∙ bits_zeros 32 0 w r refl ∙ ap (λ (y : ℕ). zeros 32 (bit_xor r y)) e

pub number : (a b c d : ℕ) → a < 256 → b < 256 → c < 256 → d < 256 → four_bytes (a * 2 ^ 24 + b * 2 ^ 16 + c * 2 ^ 8 + d) ≡ a ∷ b ∷ c ∷ d ∷ []
unfolding four_bytes
number a b c d ha hb hc hd =
    let w = a * 2 ^ 24 + b * 2 ^ 16 + c * 2 ^ 8 + d in
    let ea : w / 2 ^ 24 % 256 ≡ a = omega arith in
    let eb : w / 2 ^ 16 % 256 ≡ b = omega arith in
    let ec : w / 2 ^ 8 % 256 ≡ c = omega arith in
    let ed : w % 256 ≡ d = omega arith in
    cc (ea, eb, ec, ed)
