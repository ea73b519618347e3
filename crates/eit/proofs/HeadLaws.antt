-- What code makes of the bytes of an event's head is the head's fields.
use Prim.Native.Nat.{ℕ, ◌+◌, ◌*◌, ◌/◌, ◌%◌}
use mathlib.Core.Path.{◌≡◌, refl}
use mathlib.Core.List.{List}
use native.Mathlib.Omega.{arith}
use Rattle.bytes_at.specs.Bits.{bits_at}
use Rattle.bytes_at.proofs.BitLaws.{all_at, low_at, mid_at, join_at}
use Rattle.eit.specs.Fields.{head_at}

module _ (s : List ℕ) (a : ℕ) where
  pub id_is : {w : ℕ} → bits_at s (8 * a) 16 ≡ w → w % 16384 ≡ (head_at s a).id
  id_is e = low_at s a a 0 (omega arith) 2 14 e

  pub start_is : {l : ℕ} → bits_at s (8 * (a + 2)) 32 ≡ l → l ≡ (head_at s a).start
  start_is e = all_at s a (a + 2) 2 refl 32 e

  pub etm_is : {x : ℕ} → bits_at s (8 * (a + 6)) 8 ≡ x → x / 16 % 4 ≡ (head_at s a).etm
  etm_is e = mid_at s a (a + 6) 6 refl 2 2 4 e

  pub seconds_is : {x v : ℕ} → bits_at s (8 * (a + 6)) 8 ≡ x → bits_at s (8 * (a + 7)) 16 ≡ v → x % 16 * 65536 + v ≡ (head_at s a).seconds
  seconds_is e f = join_at s a 52 4 16 (low_at s a (a + 6) 6 refl 4 4 e) (all_at s a (a + 7) 7 refl 16 f)
