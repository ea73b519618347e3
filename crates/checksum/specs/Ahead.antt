-- A number of 40 bits that stands for a register: the one that its division by the polynomial leaves.
use Rattle.std.specs.Prelude.{◌≡◌, List, ℕ, ◌/◌, ◌%◌, ◌^◌, ◌<◌}
use Rattle.std.specs.Int.Bits.{bit_xor}
use Rattle.checksum.specs.Register.{bits_in, register_from}

-- what the bits of a above 32 come to is added to those below
abbrev pub rest : ℕ → ℕ
rest a = bit_xor (bits_in 32 0 (a / 2 ^ 32)) (a % 2 ^ 32)

abbrev pub StandsFor : ℕ → ℕ → Type 0
StandsFor u a = (a < 2 ^ 40) × (rest a ≡ u)

-- where a stands for a register after eight bits 0, b stands for it after the bytes s and n bits 0
abbrev pub StandsAfter : List ℕ → ℕ → ℕ → ℕ → Type 0
StandsAfter s a n b = (q : ℕ) → StandsFor (bits_in 8 0 q) a → StandsFor (bits_in n 0 (register_from q s)) b

-- r is the register after the bytes s, where a stands for the one before them after eight bits 0
abbrev pub End : List ℕ → ℕ → ℕ → Type 0
End s a r = (q : ℕ) → StandsFor (bits_in 8 0 q) a → r ≡ register_from q s
