-- SCOPE 4.1 and chapter 2: a text with its length of 8 bits before it. The length stands at `at`.
use Rattle.std.specs.Prelude.{ℕ, ◌+◌, List}
use Rattle.bytes_at.specs.Fields.{byte_at}
use Rattle.part.specs.declared.Part.{Part}

-- where the text stands
unfoldable pub text_at : List ℕ → ℕ → Part
text_at s at = record { start = at + 1; length = byte_at s at }

-- where it ends
unfoldable pub text_end : List ℕ → ℕ → ℕ
text_end s at = at + 1 + byte_at s at
