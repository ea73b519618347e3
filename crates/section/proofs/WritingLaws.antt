-- What a header's numbers that fit come to, the four bytes of a checksum, and a whole section put into a buffer.
use Prim.Native.Nat.{ℕ, ◌+◌, ◌*◌, ◌/◌, ◌%◌, ◌^◌, ◌<◌, ◌≤◌}
use mathlib.Core.Path.{◌≡◌, refl, ap, ◌∙◌}
use mathlib.Core.List.{List, ◌++◌}
use mathlib.Core.Bool.{true}
use native.Mathlib.Omega.{arith}
use lib.ListN.{length, take, drop, length-append}
use lib.Seq.{sets, sets-eq, take_at}
use borrow.Author.Tests.{ltb-true}
use Rattle.checksum.specs.Register.{register, four_bytes, sealed}
use Rattle.checksum.proofs.Sealing.{register_lt}
use Rattle.logic.proofs.LoopLaws.{and_left, and_right}
use Rattle.format.specs.Values.{bytes_of, number}
use Rattle.format.specs.Laws.OfValues.{bytes_length}
use Rattle.refusal.specs.Outcomes.{resulted}
use Rattle.refusal.specs.Outputs.{output_after}
use Rattle.bytes_put.proofs.PutLaws.{put_behind, put_next}
use Rattle.kind.specs.declared.Kind.{Kind}
use Rattle.kind.specs.Kinds.{table_id_of}
use Rattle.section.specs.declared.write.Given.{Given}
use Rattle.section.specs.Encoding.{header_head, length_with, head_for, encode_with}
use Rattle.section.specs.Writing.{header_given, header_fits}

-- ---- the header
-- 23, number by number
pub record Room (g : Given) : Type 0 where
  pub extension : g.extension < 65536
  pub version : g.version < 32
  pub current : g.current < 2
  pub number : g.number < 256
  pub last : g.last < 256

pub header_room : (g : Given) → header_fits g ≡ true → Room g
unfolding header_fits
header_room g e =
    let b = and_right _ _ e in
    let c = and_right _ _ b in
    let d = and_right _ _ c in
    record {
      extension = ltb-true _ _ (and_left _ _ e);
      version = ltb-true _ _ (and_left _ _ b);
      current = ltb-true _ _ (and_left _ _ c);
      number = ltb-true _ _ (and_left _ _ d);
      last = ltb-true _ _ (and_right _ _ d);
    }

-- the bytes, three after three
pub header_put : (o : List ℕ) {p q r : List ℕ} (k : Kind) (g : Given) (n t x y z : ℕ) → t ≡ table_id_of k
    → (x ≡ t * 65536 + 61440 + length_with n) × (x < 16777216)
    → (y ≡ g.extension * 256 + 192 + g.version * 2 + g.current) × (y < 16777216)
    → (z ≡ g.number * 65536 + g.last * 256) × (z < 16777216)
    → p ≡ sets o 0 (bytes_of 3 x) → q ≡ sets p 3 (bytes_of 3 y) → r ≡ sets q 6 (bytes_of 3 z)
    → r ≡ sets o 0 (bytes_of 9 (number header_head (head_for k (header_given g) n)))
header_put o k g n t x y z a b c d e f h =
    put_next o 0 6 3 (x * 2 ^ 24 + y) z (number header_head (head_for k (header_given g) n)) (omega arith) (omega arith) (omega arith)
    (put_next o 0 3 3 x y (x * 2 ^ 24 + y) (omega arith) (omega arith) refl e f) h

-- ---- the checksum
-- its bytes are those of its number
pub four_bytes_of : (w : ℕ) → w < 2 ^ 32 → bytes_of 4 w ≡ four_bytes w
unfolding four_bytes bytes_of
four_bytes_of w h =
    let a : w / 2 ^ 24 ≡ w / 2 ^ 24 % 256 = omega arith in
    let b : w % 2 ^ 24 / 2 ^ 16 ≡ w / 2 ^ 16 % 256 = omega arith in
    let c : w % 2 ^ 24 % 2 ^ 16 / 2 ^ 8 ≡ w / 2 ^ 8 % 256 = omega arith in
    let d : w % 2 ^ 24 % 2 ^ 16 % 2 ^ 8 / 2 ^ 0 ≡ w % 256 = omega arith in
    cc (a, b, c, d)

-- that of the first n bytes, behind them
pub seal_put : (o : List ℕ) {t p : List ℕ} {w : ℕ} (n : ℕ) → t ≡ take n o → w ≡ register t → p ≡ sets o n (bytes_of 4 w)
    → p ≡ sets o n (four_bytes (register (take n o)))
seal_put o {t} {p} {w} n e f g =
    g ∙ ap (sets o n) (four_bytes_of w (omega (arith, register_lt t)) ∙ ap four_bytes (f ∙ ap register e))

-- ---- a whole section
-- at the buffer's start
at_start : (u o : List ℕ) → length u ≤ length o → sets o 0 u ≡ u ++ drop (length u) o
at_start u o h = let e : 0 + length u ≡ length u = omega arith in sets-eq u o 0 (omega arith) ∙ ap (λ n. u ++ drop n o) e

-- bytes, and their checksum behind them
sealed_put : (o : List ℕ) {q r : List ℕ} (u : List ℕ) (n : ℕ) → length u ≡ n → n + 4 ≤ length o → q ≡ sets o 0 u
    → r ≡ sets q n (four_bytes (register (take n q))) → r ≡ output_after o (resulted (sealed u))
unfolding sealed output_after four_bytes
sealed_put o {q} u n a h e f =
    let w = four_bytes (register u) in
    let t : take n q ≡ u = ap (take n) (e ∙ at_start u o (omega arith)) ∙ take_at u _ n a in
    let z : n ≡ 0 + n = omega arith in
    put_behind o 0 n u w a e (f ∙ (λ i. sets q (z i) (four_bytes (register (t i)))))
    ∙ at_start (u ++ w) o (omega (arith, length-append u w))

-- header, body and checksum, one after the other, where the body has n bytes
pub assembled : (o : List ℕ) {p q r : List ℕ} (k : Kind) (g : Given) (body : List ℕ) (n : ℕ) → length body ≡ n → n + 13 ≤ length o
    → p ≡ sets o 0 (bytes_of 9 (number header_head (head_for k (header_given g) n))) → q ≡ sets p 9 body
    → r ≡ sets q (9 + n) (four_bytes (register (take (9 + n) q))) → r ≡ output_after o (resulted (encode_with k (header_given g) body))
assembled o k g body n a h e f s =
    let x = number header_head (head_for k (header_given g) (length body)) in
    sealed_put o (bytes_of 9 x ++ body) (9 + n) (omega (arith, length-append (bytes_of 9 x) body, bytes_length 9 x)) (omega arith)
    (put_behind o 0 9 (bytes_of 9 x) body (bytes_length 9 x) (rw a e) f) s
