-- The register byte by byte: lists one after the other, and two registers added.
-- Assumes nothing.
use mathlib.Core.Path.{◌≡◌, refl, sym, ap, ◌∙◌}
use mathlib.Core.List.{List, [], ◌∷◌, ◌++◌}
use Prim.Native.Nat.{ℕ, suc, ◌+◌, ◌*◌, ◌^◌, ◌<◌}
use native.Mathlib.Omega.{arith}
use lib.ListN.{length}
use lib.Bits.{bit_xor, xor_zero_r}
use Rattle.checksum.specs.Register.{bits_in, register_from}
use Rattle.checksum.proofs.Steps.{zeros, zeros_none, zeros_zeros, bits_xor, bits_lt}

pub register_from_lt : (r : ℕ) (s : List ℕ) → r < 2 ^ 32 → register_from r s < 2 ^ 32
unfolding register_from
register_from_lt r [] h = h
register_from_lt r (x ∷ s) h = register_from_lt (bits_in 8 x r) s (bits_lt 8 x r h)

pub register_from_append : (r : ℕ) (s t : List ℕ) → register_from r (s ++ t) ≡ register_from (register_from r s) t
unfolding register_from
register_from_append r [] t = refl
register_from_append r (x ∷ s) t = register_from_append (bits_in 8 x r) s t

-- of two registers added, one takes the bytes and the other as many bits 0
register_from_xor : (a b : ℕ) (s : List ℕ) → register_from (bit_xor a b) s ≡ bit_xor (zeros (8 * length s) a) (register_from b s)
unfolding register_from
register_from_xor a b [] = ap (λ (x : ℕ). bit_xor x b) (sym (zeros_none a))
register_from_xor a b (x ∷ s) =
    let e : 8 + 8 * length s ≡ 8 * suc (length s) = omega arith in
    ap (λ (y : ℕ). register_from y s) (bits_xor 8 x a b) ∙ register_from_xor (zeros 8 a) (bits_in 8 x b) s
    ∙ ap (λ (y : ℕ). bit_xor y (register_from (bits_in 8 x b) s)) (zeros_zeros (8 * length s) 8 a ∙ ap (λ (k : ℕ). zeros k a) e)

-- so bytes can go into a register of their own, and be added later
pub apart : (n r : ℕ) (s : List ℕ) → length s ≡ n → register_from r s ≡ bit_xor (zeros (8 * n) r) (register_from 0 s)
apart n r s e =
    ap (λ (x : ℕ). register_from x s) (sym (xor_zero_r r)) ∙ register_from_xor r 0 s
    ∙ ap (λ (k : ℕ). bit_xor (zeros (8 * k) r) (register_from 0 s)) e
