-- What only proofs, and promises of inner functions, say of a walk; and four bytes as a number.
use Rattle.std.specs.Prelude.{ℕ, ◌+◌, ◌*◌, ◌≡◌, List, Ok}
use Rattle.bytes_at.specs.Walks.{Walk}
use Rattle.bytes_at.specs.Fields.{word_at}

-- a walk that stands
abbrev pub Stands : Walk → Type 0
Stands w = (e : ℕ) × (w ≡ Ok e)

abbrev pub long_at : List ℕ → ℕ → ℕ
long_at s i = word_at s i * 65536 + word_at s (i + 2)
