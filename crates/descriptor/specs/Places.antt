-- SCOPE 2.6 and chapter 2: a descriptor list with its length before it: the low bits of the word at `at`, below m, which is 4096 or
-- 1024.
use Rattle.std.specs.Prelude.{ℕ, ◌+◌, ◌%◌, List}
use Rattle.bytes_at.specs.Fields.{word_at}
use Rattle.part.specs.declared.Part.{Part}
use Rattle.format.specs.Formats.{Format}
use Rattle.format.specs.Values.{One}
use Rattle.format.specs.Told.{sized12, sized10}
use Rattle.descriptor.specs.Descriptors.{descriptors}

-- where the list stands
unfoldable pub list_at : ℕ → List ℕ → ℕ → Part
list_at m s at = record { start = at + 2; length = word_at s at % m }

-- where it ends
unfoldable pub list_end : ℕ → List ℕ → ℕ → ℕ
list_end m s at = at + 2 + word_at s at % m

-- r 4, descriptors_length 12, and a descriptor list of that length
unfoldable pub list12 : ℕ → Format One
list12 judgedTag = sized12 (descriptors judgedTag)

-- r 6, descriptors_length 10, and a descriptor list of that length
unfoldable pub list10 : ℕ → Format One
list10 judgedTag = sized10 (descriptors judgedTag)
