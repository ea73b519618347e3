-- Fields past the end of the bytes.
use Prim.Native.Nat.{ℕ, ◌≤◌}
use mathlib.Core.Path.{◌≡◌}
use mathlib.Core.List.{List}
use lib.ListN.{length, get_or-eq_default}
use Rattle.bytes_at.specs.Fields.{byte_at}

-- past the end a byte is 0
pub past : (s : List ℕ) (i : ℕ) → length s ≤ i → byte_at s i ≡ 0
past s i h = get_or-eq_default s 0 h
