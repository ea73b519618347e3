-- SCOPE 1.1: the number that stands in some bits of a section. Bits are counted from the section's first bit, the high bit of a
-- byte first.
use Rattle.std.specs.Prelude.{ℕ, zero, suc, ◌+◌, ◌-◌, ◌*◌, ◌/◌, ◌%◌, ◌^◌, List}
use Rattle.bytes_at.specs.Fields.{byte_at}

-- bit p
unfoldable pub bit_at : List ℕ → ℕ → ℕ
bit_at s p = byte_at s (p / 8) / 2 ^ (7 - p % 8) % 2

-- the number of w bits from bit p on
unfoldable pub bits_at : List ℕ → ℕ → ℕ → ℕ
bits_at s p zero = 0
bits_at s p (suc w) = bits_at s p w * 2 + bit_at s (p + w)

-- the field of w bits that begins o bits after the byte `at`
abbrev pub field_at : List ℕ → ℕ → ℕ → ℕ → ℕ
field_at s at o w = bits_at s (8 * at + o) w
