-- Blocks of bytes: four are one number, and eight or sixteen are such numbers, each with as many bits 0 after it as follow.
-- Assumes nothing.
use mathlib.Core.Path.{◌≡◌, sym, ap, ap₂, ◌∙◌, subst}
use mathlib.Core.List.{List, [], ◌∷◌, ◌++◌}
use Prim.Native.Nat.{ℕ, suc, ◌+◌, ◌*◌, ◌/◌, ◌%◌, ◌^◌, ◌<◌, ◌≤◌}
use native.Mathlib.Nat.{mod-lt, mod-eq_of_lt}
use native.Mathlib.Numerals.{add-one}
use native.Mathlib.Omega.{arith}
use lib.ListN.{length, get_or, take, drop, take-append-drop, drop_of_length-le, length-drop}
use lib.Seq.{drop-cons, drop-drop, take-add, length-take-le}
use lib.Pow.{pow_pos, mod-pow-add}
use lib.Bits.{bit_xor, xor_lt, xor_shifted}
use Rattle.checksum.specs.Register.{register_from, four_bytes}
use Rattle.checksum.specs.Ahead.{StandsFor, StandsAfter, End}
use Rattle.checksum.proofs.Xor.{xor_assoc, xor_first}
use Rattle.checksum.proofs.Steps.{zeros, zeros_xor, zeros_zeros}
use Rattle.checksum.proofs.Bytes.{register_from_append, apart}
use Rattle.checksum.proofs.Words.{word_zeros}
use Rattle.checksum.proofs.Ahead.{sum, cut, zeros_low, come_back}

-- ---- a number of 32 bits, from its bytes

high : (k e y b d : ℕ) → y / 2 ^ k % 256 * 2 ^ k < 2 ^ 32 → StandsFor (zeros (k + e) (y / 2 ^ k % 256)) b → StandsFor (zeros e (y % 2 ^ k)) d
    → StandsFor (zeros e (y % 2 ^ (8 + k))) (bit_xor b d)
high k e y b d h p r =
    let t = y / 2 ^ k % 256 in
    let l = y % 2 ^ k in
    subst (λ (u : ℕ). StandsFor u (bit_xor b d))
    (sym (ap (zeros e) (mod-pow-add y 8 k ∙ sym (xor_shifted t k l (mod-lt y (pow_pos k)))) ∙ zeros_xor e (t * 2 ^ k) l
    ∙ ap (λ (u : ℕ). bit_xor u (zeros e l)) (ap (zeros e) (sym (zeros_low k t h)) ∙ zeros_zeros e k t)))
    (sum (zeros (k + e) t) (zeros e l) b d p r)

pub word : (e y b c d f : ℕ) → StandsFor (zeros (24 + e) (y / 2 ^ 24 % 256)) b → StandsFor (zeros (16 + e) (y / 2 ^ 16 % 256)) c
    → StandsFor (zeros (8 + e) (y / 2 ^ 8 % 256)) d → StandsFor (zeros e (y % 256)) f
    → StandsFor (zeros e (y % 2 ^ 32)) (bit_xor b (bit_xor c (bit_xor d f)))
word e y b c d f p q r s = high 24 e y b _ (omega arith) p (high 16 e y c _ (omega arith) q (high 8 e y d f (omega arith) r s))

-- ---- four bytes as a number: it is added to the top of a, and the low byte of a is left over

four_ahead : (q a w : ℕ) → StandsFor (zeros 8 q) a → w < 2 ^ 32
    → register_from q (four_bytes w) ≡ bit_xor (zeros 32 (bit_xor (a / 2 ^ 8) w)) (a % 256 * 2 ^ 24)
four_ahead q a w h less =
    let v = a / 2 ^ 8 in
    let l = a % 256 in
    let over : zeros 32 q ≡ bit_xor (zeros 32 v) (l * 2 ^ 24) =
    sym (zeros_zeros 24 8 q) ∙ ap (zeros 24) (sym h.1 ∙ cut a h.0) ∙ zeros_xor 24 (zeros 8 v) l
    ∙ ap₂ bit_xor (zeros_zeros 24 8 v) (zeros_low 24 l (omega arith)) in
    word_zeros q w less ∙ zeros_xor 32 q w ∙ ap (λ (u : ℕ). bit_xor u (zeros 32 w)) over
    ∙ xor_first (zeros 32 v) (l * 2 ^ 24) (zeros 32 w) ∙ ap (λ (u : ℕ). bit_xor u (l * 2 ^ 24)) (sym (zeros_xor 32 v w))

top_word : (a w : ℕ) → a < 2 ^ 40 → w < 2 ^ 32 → bit_xor (a / 2 ^ 8) w % 2 ^ 32 ≡ bit_xor (a / 2 ^ 8) w
top_word a w h less = mod-eq_of_lt (xor_lt 32 (a / 2 ^ 8) w (omega arith) less)

low_word : (a w : ℕ) → w < 2 ^ 32 → bit_xor (a % 256 * 2 ^ 24 % 2 ^ 64) w % 2 ^ 32 ≡ bit_xor (a % 256 * 2 ^ 24) w
low_word a w less =
    let e : a % 256 * 2 ^ 24 % 2 ^ 64 ≡ a % 256 * 2 ^ 24 = omega arith in
    ap (λ (l : ℕ). bit_xor l w % 2 ^ 32) e ∙ mod-eq_of_lt (xor_lt 32 (a % 256 * 2 ^ 24) w (omega arith) less)

pub four_more : (q a w b : ℕ) (f : List ℕ) → StandsFor (zeros 8 q) a → (w < 2 ^ 32) × (four_bytes w ≡ f)
    → StandsFor (zeros 40 (bit_xor (a / 2 ^ 8) w % 2 ^ 32)) b → StandsFor (zeros 8 (register_from q f)) (bit_xor b (a % 256 * 2 ^ 32 % 2 ^ 64))
four_more q a w b f h k p =
    let l = a % 256 * 2 ^ 24 in
    let e : l * 2 ^ 8 ≡ a % 256 * 2 ^ 32 % 2 ^ 64 = omega arith in
    subst (λ (c : ℕ). StandsFor (zeros 8 (register_from q f)) (bit_xor b c)) e
    (come_back (register_from q f) (bit_xor (a / 2 ^ 8) w) l b (ap (register_from q) (sym k.1) ∙ four_ahead q a w h k.0) (omega arith)
    (subst (λ (y : ℕ). StandsFor (zeros 40 y) b) (top_word a w h.0 k.0) p))

-- ---- blocks of a list

eight_ahead : (q a w v : ℕ) → StandsFor (zeros 8 q) a → w < 2 ^ 32 → v < 2 ^ 32
    → register_from q (four_bytes w ++ four_bytes v) ≡ bit_xor (zeros 64 (bit_xor (a / 2 ^ 8) w)) (zeros 32 (bit_xor (a % 256 * 2 ^ 24) v))
eight_ahead q a w v h hw hv =
    let y = bit_xor (a / 2 ^ 8) w in
    let l = a % 256 * 2 ^ 24 in
    register_from_append q (four_bytes w) (four_bytes v) ∙ ap (λ (r : ℕ). register_from r (four_bytes v)) (four_ahead q a w h hw)
    ∙ word_zeros (bit_xor (zeros 32 y) l) v hv ∙ ap (zeros 32) (xor_assoc (zeros 32 y) l v) ∙ zeros_xor 32 (zeros 32 y) (bit_xor l v)
    ∙ ap (λ (u : ℕ). bit_xor u (zeros 32 (bit_xor l v))) (zeros_zeros 32 32 y)

two_fours : (s : List ℕ) (at : ℕ) → take 8 (drop at s) ≡ take 4 (drop at s) ++ take 4 (drop (at + 4) s)
two_fours s at = take-add 4 4 (drop at s) ∙ ap (λ (t : List ℕ). take 4 (drop at s) ++ take 4 t) (drop-drop 4 at s)

-- eight bytes, and n bits 0 after them
pub eight_more : (n q a w v b d : ℕ) (s : List ℕ) (at : ℕ) → StandsFor (zeros 8 q) a
    → (w < 2 ^ 32) × (four_bytes w ≡ take 4 (drop at s)) → (v < 2 ^ 32) × (four_bytes v ≡ take 4 (drop (at + 4) s))
    → StandsFor (zeros (64 + n) (bit_xor (a / 2 ^ 8) w % 2 ^ 32)) b
    → StandsFor (zeros (32 + n) (bit_xor (a % 256 * 2 ^ 24 % 2 ^ 64) v % 2 ^ 32)) d
    → StandsFor (zeros n (register_from q (take 8 (drop at s)))) (bit_xor b d)
eight_more n q a w v b d s at h k m p r =
    let y = bit_xor (a / 2 ^ 8) w in
    let z = bit_xor (a % 256 * 2 ^ 24) v in
    let bytes : take 8 (drop at s) ≡ four_bytes w ++ four_bytes v = two_fours s at ∙ sym (ap₂ (λ (f g : List ℕ). f ++ g) k.1 m.1) in
    let e : zeros n (register_from q (take 8 (drop at s))) ≡ bit_xor (zeros (64 + n) y) (zeros (32 + n) z) =
    ap (zeros n) (ap (register_from q) bytes ∙ eight_ahead q a w v h k.0 m.0) ∙ zeros_xor n (zeros 64 y) (zeros 32 z)
    ∙ ap₂ bit_xor (zeros_zeros n 64 y) (zeros_zeros n 32 z) in
    subst (λ (u : ℕ). StandsFor u (bit_xor b d)) (sym e)
    (sum (zeros (64 + n) y) (zeros (32 + n) z) b d
    (subst (λ (u : ℕ). StandsFor (zeros (64 + n) u) b) (top_word a w h.0 k.0) p)
    (subst (λ (u : ℕ). StandsFor (zeros (32 + n) u) d) (low_word a v m.0) r))

-- two blocks of eight, the second from a register of its own
pub two_eights : (q b d : ℕ) (s : List ℕ) (at : ℕ) → at + 16 ≤ length s → StandsFor (zeros 72 (register_from q (take 8 (drop at s)))) b
    → StandsFor (zeros 8 (register_from 0 (take 8 (drop (at + 8) s)))) d → StandsFor (zeros 8 (register_from q (take 16 (drop at s)))) (bit_xor b d)
two_eights q b d s at h p r =
    let f = take 8 (drop at s) in
    let g = take 8 (drop (at + 8) s) in
    let z = register_from q f in
    let eight : length g ≡ 8 = length-take-le 8 (drop (at + 8) s) (omega (arith, length-drop (at + 8) s)) in
    let bytes : take 16 (drop at s) ≡ f ++ g = take-add 8 8 (drop at s) ∙ ap (λ (t : List ℕ). f ++ take 8 t) (drop-drop 8 at s) in
    let e : zeros 8 (register_from q (take 16 (drop at s))) ≡ bit_xor (zeros 72 z) (zeros 8 (register_from 0 g)) =
    ap (λ (t : List ℕ). zeros 8 (register_from q t)) bytes ∙ ap (zeros 8) (register_from_append q f g ∙ apart 8 z g eight)
    ∙ zeros_xor 8 (zeros 64 z) (register_from 0 g) ∙ ap (λ (w : ℕ). bit_xor w (zeros 8 (register_from 0 g))) (zeros_zeros 8 64 z) in
    subst (λ (u : ℕ). StandsFor u (bit_xor b d)) (sym e) (sum _ _ b d p r)

-- ---- the bytes of a block

first_byte : (n : ℕ) (s : List ℕ) (at : ℕ) → at < length s → take (suc n) (drop at s) ≡ get_or s at 0 ∷ take n (drop (at + 1) s)
first_byte n s at h = ap (take (suc n)) (drop-cons s at 0 h) ∙ ap (λ (k : ℕ). get_or s at 0 ∷ take n (drop k s)) (sym (add-one at))

next_byte : (n k : ℕ) (s : List ℕ) (at : ℕ) → at + k < length s
    → take (suc n) (drop (at + k) s) ≡ get_or s (at + k) 0 ∷ take n (drop (at + suc k) s)
next_byte n k s at h =
    let e : suc (at + k) ≡ at + suc k = omega arith in
    ap (take (suc n)) (drop-cons s (at + k) 0 h) ∙ ap (λ (m : ℕ). get_or s (at + k) 0 ∷ take n (drop m s)) e

then : {t u : List ℕ} (x : ℕ) → t ≡ u → x ∷ t ≡ x ∷ u
then x e = ap (λ (l : List ℕ). x ∷ l) e

pub block_one : (s : List ℕ) (at : ℕ) → at < length s → take 1 (drop at s) ≡ get_or s at 0 ∷ []
block_one s at h = first_byte 0 s at h

pub block_two : (s : List ℕ) (at : ℕ) → at + 2 ≤ length s → take 2 (drop at s) ≡ get_or s at 0 ∷ get_or s (at + 1) 0 ∷ []
block_two s at h = first_byte 1 s at (omega arith) ∙ then _ (next_byte 0 1 s at (omega arith))

-- ---- to the end: a block where more bytes follow, and then those

pub one_left : (at b r : ℕ) (s : List ℕ) → at < length s → length s ≤ at + 1 → End (get_or s at 0 ∷ []) b r → End (drop at s) b r
one_left at b r s h less ends q p =
    let past : length s ≤ suc at = omega arith in
    ends q p ∙ ap (register_from q) (sym (drop-cons s at 0 h ∙ then _ (drop_of_length-le s past)))

-- what went in, and a block after it
pub block_in : (n at r : ℕ) (s : List ℕ) → register_from (register_from r (take at s)) (take n (drop at s)) ≡ register_from r (take (at + n) s)
block_in n at r s = sym (ap (register_from r) (take-add at n s) ∙ register_from_append r (take at s) (take n (drop at s)))

pub took : (n at a b b' i r : ℕ) (f s : List ℕ) → take n (drop at s) ≡ f → StandsAfter f a 8 b' → b ≡ b' → i ≡ at + n → End (drop i s) b r → End (drop at s) a r
took n at a b b' i r f s bytes more e k ends q h =
    let p = register_from q f in
    ends p (subst (StandsFor (zeros 8 p)) (sym e) (more q h)) ∙ ap (register_from p) (ap (λ (j : ℕ). drop j s) k ∙ sym (drop-drop n at s))
    ∙ sym (register_from_append q f (drop n (drop at s)))
    ∙ ap (register_from q) (ap (λ (t : List ℕ). t ++ drop n (drop at s)) (sym bytes) ∙ take-append-drop n (drop at s))

pub kept : (at a b i r : ℕ) (s : List ℕ) → b ≡ a → i ≡ at → End (drop i s) b r → End (drop at s) a r
kept at a b i r s e k ends q h =
    ends q (subst (StandsFor (zeros 8 q)) (sym e) h) ∙ ap (λ (j : ℕ). register_from q (drop j s)) k
