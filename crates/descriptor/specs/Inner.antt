-- What the private functions answer.
use Rattle.std.specs.Prelude.{ℕ, ◌%◌, refl, [], ◌∷◌}
use Rattle.format.specs.Formats.{Format, last_word, through, head, filled}
use Rattle.format.specs.Values.{One}
use Rattle.descriptor.specs.Descriptors.{descriptors}

-- a length in the low bits of 16, below m, and a descriptor list of that length: list12 and list10 walk as it does
unfoldable pub sized_descriptors : ℕ → ℕ → Format One
sized_descriptors judgedTag m = head (16 ∷ []) 2 refl (through (λ n. n % m) last_word) (filled 2 (descriptors judgedTag))
