-- Bytes put one after the other: the bytes of two numbers are those of one, and a copy grows by a byte.
use Prim.Native.Nat.{ℕ, zero, suc, ◌+◌, ◌-◌, ◌*◌, ◌/◌, ◌%◌, ◌^◌, ◌<◌, ◌≤◌}
use mathlib.Core.Path.{◌≡◌, refl, sym, ap, ap₂, ◌∙◌}
use mathlib.Core.List.{List, [], ◌∷◌, ◌++◌, append_assoc}
use native.Mathlib.Nat.{suc-add, zero-add, pow-suc, mod-eq_of_lt}
use native.Mathlib.Numerals.{add-one}
use native.Mathlib.Omega.{arith}
use lib.Pow.{shr-shr, high, low, mod-pow-add, mod-mod-pow, pow-add}
use Rattle.std.proofs.lemmas.Nat.{field_of}
use Rattle.std.specs.Int.{byte_at, bytes_high_first}
use lib.ListN.{length, get_or, set, take, drop, length-drop}
use borrow.Rule.Slice.PartMut.{put_mid}
use Rattle.std.proofs.lemmas.List.Edits.{sets-eq}
use lib.Seq.{sets, drop-drop, take-suc, get_or-drop, length-take-le}
use Rattle.row.proofs.RowLaws.{sets_append}
use Rattle.format.specs.Values.{bytes_of}
use Rattle.format.specs.Laws.OfValues.{bytes_length}

-- ---- two numbers, the second in the low bytes
module _ (k b : ℕ) (h : b < 2 ^ (8 * k)) where
  front_high : (j a : ℕ) → (a * 2 ^ (8 * k) + b) / 2 ^ (8 * (j + k)) ≡ a / 2 ^ (8 * j)
  front_high j a =
      let n = a * 2 ^ (8 * k) + b in
      let e : 8 * (j + k) ≡ 8 * k + 8 * j = omega arith in
      ap (λ m. n / 2 ^ m) e ∙ sym (shr-shr n (8 * k) (8 * j)) ∙ ap (λ m. m / 2 ^ (8 * j)) (high a (8 * k) h)

  front_low : (j a : ℕ) → (a * 2 ^ (8 * k) + b) % 2 ^ (8 * (j + k)) ≡ a % 2 ^ (8 * j) * 2 ^ (8 * k) + b
  front_low j a =
      let n = a * 2 ^ (8 * k) + b in
      let e : 8 * (j + k) ≡ 8 * j + 8 * k = omega arith in
      ap (λ m. n % 2 ^ m) e ∙ mod-pow-add n (8 * j) (8 * k)
      ∙ ap (λ m. m % 2 ^ (8 * j) * 2 ^ (8 * k) + n % 2 ^ (8 * k)) (high a (8 * k) h)
      ∙ ap (λ m. a % 2 ^ (8 * j) * 2 ^ (8 * k) + m) (low a (8 * k) h)

  -- the first byte is the first of the first number
  front : (j a : ℕ) (l : List ℕ) → bytes_of (j + k) (a % 2 ^ (8 * j) * 2 ^ (8 * k) + b) ≡ l
      → bytes_of (suc j + k) (a * 2 ^ (8 * k) + b) ≡ a / 2 ^ (8 * j) ∷ l
  unfolding bytes_of
  front j a l e =
      let t = ap (bytes_of (j + k)) (front_low j a) ∙ e in
      ap (λ m. bytes_of m (a * 2 ^ (8 * k) + b)) (suc-add j k) ∙ (λ i. front_high j a i ∷ t i)

-- the bytes of the first, then those of the second
pub bytes_join : (j k a b : ℕ) → 0 < j → b < 2 ^ (8 * k) → bytes_of (j + k) (a * 2 ^ (8 * k) + b) ≡ bytes_of j a ++ bytes_of k b
unfolding bytes_of
bytes_join zero k a b p h = absurd (omega arith)
bytes_join (suc zero) k a b p h =
    let n : 0 + k ≡ k = omega arith in
    let z : a % 1 ≡ 0 = omega arith in
    let m : 0 * 2 ^ (8 * k) + b ≡ b = omega arith in
    front k b h 0 a (bytes_of k b) (rw (n, z) (ap (bytes_of k) m))
bytes_join (suc (suc j)) k a b p h =
    front k b h (suc j) a _ (bytes_join (suc j) k (a % 2 ^ (8 * suc j)) b (omega arith) h)

-- ---- as the machine has them
power : (k : ℕ) → 256 ^ k ≡ 2 ^ (8 * k)
power zero = refl
power (suc k) =
    let e : 8 * k + 8 ≡ 8 * suc k = omega arith in
    pow-suc 256 k ∙ ap (λ m. m * 256) (power k) ∙ sym (pow-add 2 (8 * k) 8) ∙ ap (λ m. 2 ^ m) e

byte_there : (k n : ℕ) → byte_at k n ≡ n / 2 ^ (8 * k) % 256
byte_there zero n = let e : n / 1 ≡ n = omega arith in ap (λ m. m % 256) (sym e)
byte_there (suc k) n = ap (λ m. n / m % 256) (power (suc k))

high_first : (k n : ℕ) → bytes_high_first k n ≡ bytes_of k (n % 2 ^ (8 * k))
unfolding bytes_of
high_first zero n = refl
high_first (suc k) n =
    let e : 8 * suc k ≡ 8 + 8 * k = omega arith in
    let m = n % 2 ^ (8 * suc k) in
    let top : byte_at k n ≡ m / 2 ^ (8 * k) = byte_there k n ∙ sym (field_of n 8 (8 * k)) ∙ ap (λ w. n % 2 ^ w / 2 ^ (8 * k)) (sym e) in
    let rest : bytes_high_first k n ≡ bytes_of k (m % 2 ^ (8 * k)) = high_first k n ∙ ap (bytes_of k) (sym (ap (λ w. n % 2 ^ w % 2 ^ (8 * k)) e ∙ mod-mod-pow n 8 (8 * k))) in
    (λ i. top i ∷ rest i)

behind_higher : (j k n : ℕ) → drop j (bytes_high_first (j + k) n) ≡ bytes_high_first k n
behind_higher zero k n = ap (λ m. bytes_high_first m n) (zero-add k)
behind_higher (suc j) k n = ap (λ m. drop (suc j) (bytes_high_first m n)) (suc-add j k) ∙ behind_higher j k n

-- the last k bytes of a number of eight
pub last_bytes : (k n : ℕ) → k ≤ 8 → n < 2 ^ (8 * k) → drop (8 - k) (bytes_high_first 8 n) ≡ bytes_of k n
last_bytes k n h less =
    let e : 8 ≡ 8 - k + k = omega arith in
    ap (λ m. drop (8 - k) (bytes_high_first m n)) e ∙ behind_higher (8 - k) k n ∙ high_first k n ∙ ap (bytes_of k) (mod-eq_of_lt less)

-- ---- put into a buffer
-- a list over as many bytes as it has
pub put_over : (o : List ℕ) (at n : ℕ) (x : List ℕ) {y : List ℕ} → length x ≡ n → at + n ≤ length o → y ≡ x
    → put_mid at (at + n - at) o y ≡ sets o at x
put_over o at n x h room e =
    let many : at + n - at ≡ n = omega arith in
    ap₂ (λ (k : ℕ) (l : List ℕ). put_mid at k o l) many e
    ∙ ap (λ (l : List ℕ). take at o ++ (x ++ l)) (drop-drop n at o ∙ ap (λ (k : ℕ). drop (at + k) o) (sym h))
    ∙ sym (sets-eq x o at (omega (arith, h)) ∙ append_assoc (take at o) x (drop (at + length x) o))

-- a list, and another behind it
pub put_behind : (o : List ℕ) (at n : ℕ) (x y : List ℕ) {k m : List ℕ} → length x ≡ n → k ≡ sets o at x → m ≡ sets k (at + n) y
    → m ≡ sets o at (x ++ y)
put_behind o at n x y e f g = rw (g, f, ← e) (sym (sets_append x y o at))

-- a number, and another behind it
pub put_next : (o : List ℕ) {p q : List ℕ} (at j k a b x : ℕ) → 0 < j → b < 2 ^ (8 * k) → x ≡ a * 2 ^ (8 * k) + b
    → p ≡ sets o at (bytes_of j a) → q ≡ sets p (at + j) (bytes_of k b) → q ≡ sets o at (bytes_of (j + k) x)
put_next o at j k a b x z h e f g =
    put_behind o at j (bytes_of j a) (bytes_of k b) (bytes_length j a) f g
    ∙ ap (sets o at) (sym (bytes_join j k a b z h) ∙ ap (bytes_of (j + k)) (sym e))

-- a copy, and one byte more
pub copy_more : (o s : List ℕ) (at start i : ℕ) → start + i < length s
    → set (sets o at (take i (drop start s))) (at + i) (get_or s (start + i) 0) ≡ sets o at (take (i + 1) (drop start s))
copy_more o s at start i h =
    let t = drop start s in
    let l : i < length t = omega (arith, length-drop start s) in
    ap (set (sets o at (take i t)) (at + i)) (sym (get_or-drop start s i 0))
    ∙ ap (λ n. set (sets o at (take i t)) (at + n) (get_or t i 0)) (sym (length-take-le i t (omega arith)))
    ∙ sym (sets_append (take i t) (get_or t i 0 ∷ []) o at)
    ∙ ap (sets o at) (sym (take-suc t i 0 l) ∙ ap (λ n. take n t) (sym (add-one i)))
