-- SCOPE 1.1: multi-byte fields have their high byte first. A field is read at an offset of the whole
-- section, and is 0 past the end, so that every read has a value.
use Rattle.std.specs.Prelude.{ℕ, ◌+◌, ◌*◌, List, get_or}

abbrev pub byte_at : List ℕ → ℕ → ℕ
byte_at s i = get_or s i 0

abbrev pub word_at : List ℕ → ℕ → ℕ
word_at s i = byte_at s i * 256 + byte_at s (i + 1)
