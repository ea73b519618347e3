-- What code reads of a defined table is the numbers that its format names, whatever is made of them.
use Prim.Native.Nat.{ℕ, ◌+◌, ◌*◌, ◌%◌}
use mathlib.Core.Path.{◌≡◌, refl}
use mathlib.Core.List.{List}
use native.Mathlib.Omega.{arith}
use Rattle.bytes_at.specs.Bits.{bits_at}
use Rattle.bytes_at.proofs.BitLaws.{all_at, low_at}
use Rattle.mgt.specs.Fields.{head_at}

pub numbers_are : {A : Type 0} (f : ℕ → ℕ → ℕ → ℕ → A) (s : List ℕ) (a : ℕ) {t p v n : ℕ} → bits_at s (8 * a) 16 ≡ t
    → bits_at s (8 * (a + 2)) 16 ≡ p → bits_at s (8 * (a + 4)) 8 ≡ v → bits_at s (8 * (a + 5)) 32 ≡ n
    → f t (p % 8192) (v % 32) n ≡ f (head_at s a).type (head_at s a).pid (head_at s a).version (head_at s a).bytes
numbers_are f s a e g h k =
    let type = all_at s a a 0 (omega arith) 16 e in
    let pid = low_at s a (a + 2) 2 refl 3 13 g in
    let version = low_at s a (a + 4) 4 refl 3 5 h in
    let bytes = all_at s a (a + 5) 5 refl 32 k in
    λ i. f (type i) (pid i) (version i) (bytes i)
