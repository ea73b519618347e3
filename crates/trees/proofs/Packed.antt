-- Words of eight bytes, the first lowest: which byte stands where, and that the words of a table hold its bytes.
use mathlib.Core.Path.{◌≡◌, refl, sym, subst, ap, ap₂, ◌∙◌}
use mathlib.Core.Bool.{Bool, true, false}
use mathlib.Core.List.{List, [], ◌∷◌, ◌++◌}
use Prim.Native.Nat.{ℕ, zero, suc, ◌+◌, ◌*◌, ◌/◌, ◌%◌, ◌^◌, ◌<◌}
use native.Mathlib.Nat.{zero-add, zero-div}
use native.Mathlib.Omega.{arith}
use lib.ListN.{length, get_or, get_or-append}
use lib.Seq.{get_or-append-add}
use Rattle.annex_c.specs.Table1.{table1}
use Rattle.annex_c.specs.Table2.{table2}
use Rattle.annex_c.specs.Tree.{root}
use Rattle.trees.specs.Words1.{words1}
use Rattle.trees.specs.Words2.{words2}
use Rattle.trees.specs.Which.{table_of, words_of}

bytes_of : ℕ → List ℕ
bytes_of w =
    w % 256 ∷ w / 256 % 256 ∷ w / 65536 % 256 ∷ w / 16777216 % 256 ∷ w / 4294967296 % 256 ∷ w / 1099511627776 % 256
    ∷ w / 281474976710656 % 256 ∷ w / 72057594037927936 % 256 ∷ []

bytes : List ℕ → List ℕ
bytes [] = []
bytes (w ∷ ws) = bytes_of w ++ bytes ws

length_bytes_of : (w : ℕ) → length (bytes_of w) ≡ 8
unfolding bytes_of
length_bytes_of w = refl

in_word : (w r : ℕ) → r < 8 → get_or (bytes_of w) r 0 ≡ w / 2 ^ (8 * r) % 256
unfolding bytes_of
in_word w zero l = omega arith
in_word w (suc zero) l = refl
in_word w (suc (suc zero)) l = refl
in_word w (suc (suc (suc zero))) l = refl
in_word w (suc (suc (suc (suc zero)))) l = refl
in_word w (suc (suc (suc (suc (suc zero))))) l = refl
in_word w (suc (suc (suc (suc (suc (suc zero)))))) l = refl
in_word w (suc (suc (suc (suc (suc (suc (suc zero))))))) l = refl
in_word w (suc (suc (suc (suc (suc (suc (suc (suc r)))))))) l = absurd (omega arith)

in_words : (ws : List ℕ) (q r : ℕ) → r < 8 → get_or (bytes ws) (8 * q + r) 0 ≡ get_or ws q 0 / 2 ^ (8 * r) % 256
unfolding bytes
in_words [] q r l = rw (zero-div (2 ^ (8 * r)))
in_words (w ∷ ws) zero r l = rw zero-add (get_or-append (bytes_of w) (bytes ws) 0 r (rw length_bytes_of l) ∙ in_word w r l)
in_words (w ∷ ws) (suc q) r l =
    let e : 8 * suc q + r ≡ length (bytes_of w) + (8 * q + r) = omega (arith, length_bytes_of w) in
    rw e (get_or-append-add (bytes_of w) (bytes ws) (8 * q + r) 0 ∙ in_words ws q r l)

zeroes : ℕ → List ℕ
zeroes zero = []
zeroes (suc n) = 0 ∷ zeroes n

no_more : (n i : ℕ) → get_or (zeroes n) i 0 ≡ 0
unfolding zeroes
no_more zero i = refl
no_more (suc n) zero = refl
no_more (suc n) (suc i) = no_more n i

-- zeroes behind a list are not seen
padded : (n : ℕ) (l : List ℕ) (i : ℕ) → get_or (l ++ zeroes n) i 0 ≡ get_or l i 0
padded n [] i = no_more n i
padded n (x ∷ l) zero = refl
padded n (x ∷ l) (suc i) = padded n l i

held1 : bytes words1 ≡ table1 ++ zeroes 4
unfolding bytes bytes_of zeroes words1 table1
held1 = refl

held2 : bytes words2 ≡ table2 ++ zeroes 2
unfolding bytes bytes_of zeroes words2 table2
held2 = refl

pieced : (ws t : List ℕ) (n q r : ℕ) → r < 8 → bytes ws ≡ t ++ zeroes n → get_or ws q 0 / 2 ^ (8 * r) % 256 ≡ get_or t (8 * q + r) 0
pieced ws t n q r l h = sym (in_words ws q r l) ∙ ap (λ (k : List ℕ). get_or k (8 * q + r) 0) h ∙ padded n t (8 * q + r)

-- byte r of word q is byte 8 * q + r of the table
piece : (b : Bool) (q r : ℕ) → r < 8 → get_or (words_of b) q 0 / 2 ^ (8 * r) % 256 ≡ get_or (table_of b) (8 * q + r) 0
unfolding words_of table_of
piece true q r l = pieced words1 table1 4 q r l held1
piece false q r l = pieced words2 table2 2 q r l held2

pub byte_in : (b : Bool) (i : ℕ) → get_or (words_of b) (i / 8) 0 / 2 ^ (8 * (i % 8)) % 256 ≡ get_or (table_of b) i 0
byte_in b i =
    subst (λ (k : ℕ). get_or (words_of b) (i / 8) 0 / 2 ^ (8 * (i % 8)) % 256 ≡ get_or (table_of b) k 0) (omega arith)
    (piece b (i / 8) (i % 8) (omega arith))

next_byte : (w r : ℕ) → r < 4 → w / 2 ^ (16 * r) / 256 ≡ w / 2 ^ (8 * (2 * r + 1))
next_byte w zero l = omega arith
next_byte w (suc zero) l = omega arith
next_byte w (suc (suc zero)) l = omega arith
next_byte w (suc (suc (suc zero))) l = omega arith
next_byte w (suc (suc (suc (suc r)))) l = absurd (omega arith)

-- two bytes of a word are an offset, the first high
pub root_in : (b : Bool) (p : ℕ)
    → 256 * (get_or (words_of b) (p / 4) 0 / 2 ^ (16 * (p % 4)) % 256) + get_or (words_of b) (p / 4) 0 / 2 ^ (16 * (p % 4)) / 256 % 256 ≡ root (table_of b) p
unfolding root
root_in b p =
    let w = get_or (words_of b) (p / 4) 0 in
    let at : ℕ → ℕ = λ k. get_or (table_of b) k 0 in
    let e : 16 * (p % 4) ≡ 8 * (2 * (p % 4)) = omega arith in
    let first : 8 * (p / 4) + 2 * (p % 4) ≡ 2 * p = omega arith in
    let second : 8 * (p / 4) + (2 * (p % 4) + 1) ≡ 2 * p + 1 = omega arith in
    let high = ap (λ (k : ℕ). w / 2 ^ k % 256) e ∙ piece b (p / 4) (2 * (p % 4)) (omega arith) ∙ ap at first in
    let low = ap (λ (x : ℕ). x % 256) (next_byte w (p % 4) (omega arith)) ∙ piece b (p / 4) (2 * (p % 4) + 1) (omega arith) ∙ ap at second in
    ap₂ (λ (x y : ℕ). 256 * x + y) high low
