-- Laws that turn a head of fields into what code computes.
use Prim.Native.Nat.{ℕ, zero, suc, ◌+◌, ◌-◌, ◌*◌, ◌/◌, ◌≤◌, ◌<◌}
use mathlib.Core.Path.{◌≡◌, refl, sym, ap, ◌∙◌}
use mathlib.Core.Logic.{⊎_elim}
use mathlib.Core.List.{List, [], ◌∷◌, ◌++◌}
use mathlib.Core.Bool.{Bool, true, false}
use native.Mathlib.Nat.{eq-zero-or-pos}
use native.Mathlib.Omega.{arith}
use lib.ListN.{replicate}
use lib.Dec.{leb}
use borrow.Author.Tests.{leb-true}
use Rattle.std.specs.Prelude.{Ok, Err}
use Rattle.logic.specs.Choices.{pick}
use Rattle.bytes_at.specs.Walks.{skip_to, bits_to, fields_to, then, Walk}
use Rattle.bytes_at.proofs.WalkLaws.{skip_fits, skip_past, bits_on, bits_past, bits_done}
use Rattle.format.specs.Lawful.{total}
use Rattle.format.specs.Laws.OfBytes.{bits_begin}
use Rattle.format.proofs.StepLaws.{fields_took}

-- fields of no bits at a head's end change nothing
bits_none : (z p end : ℕ) → p ≤ 8 * end → Ok (p / 8) ≡ bits_to (replicate z 0) p end
bits_none zero p end h = bits_done p end (p / 8) refl
bits_none (suc z) p end h =
    bits_on 0 (replicate z 0) p end (omega arith)
    (ap (λ q. Ok (q / 8)) (omega arith) ∙ bits_none z (p + 0) end (omega arith))

pick_first : {A : Type 0} (t : Bool) (a b c : A) → (t ≡ true → a ≡ b) → pick t a c ≡ pick t b c
pick_first true a b c h = h refl
pick_first false a b c h = refl

bits_pad : (n : ℕ) (ns : List ℕ) (z p end : ℕ) → bits_to (n ∷ ns ++ replicate z 0) p end ≡ bits_to (n ∷ ns) p end
unfolding bits_to
bits_pad n [] z p end = pick_first (leb (p + n) (8 * end)) _ _ _ (λ t. sym (bits_none z (p + n) end (leb-true (p + n) (8 * end) t)))
bits_pad n (m ∷ ns) z p end = ap (λ w. pick (leb (p + n) (8 * end)) w (Err (p / 8))) (bits_pad m ns z (p + n) end)

pub pad : (n : ℕ) (ns : List ℕ) (z at end : ℕ) → fields_to (n ∷ ns ++ replicate z 0) at end ≡ fields_to (n ∷ ns) at end
unfolding fields_to
pad n ns z at end = bits_pad n ns z (8 * at) end

-- a head of one field of n bytes is a plain step
pub skip_field : (n at end : ℕ) → fields_to (8 * n ∷ []) at end ≡ skip_to 0 at n end
unfolding fields_to
skip_field n at end = ⊎_elim
    (λ h. sym (bits_on (8 * n) [] (8 * at) end (omega arith) (bits_done (8 * at + 8 * n) end (at + n) (omega arith)))
    ∙ skip_fits 0 at n end (omega arith))
    (λ h. sym (bits_past (8 * n) [] (8 * at) end at (omega arith) (omega arith))
    ∙ skip_past 0 at n end at (omega arith) (omega arith))
    (eq-zero-or-pos (at + n - end))

-- a head that is passed ends within its container
pub fields_end : (n : ℕ) (ns : List ℕ) (k : ℕ) → total (n ∷ ns) ≡ 8 * k → (at end b : ℕ) → fields_to (n ∷ ns) at end ≡ Ok b
    → (b ≡ at + k) × (b ≤ end)
unfolding fields_to
fields_end n ns k whole at end b e =
    let t = bits_begin n ns (8 * at) end b e in
    fields_took (n ∷ ns) k whole at end b (omega arith) e

-- fields that begin in one byte are as good as one: to blame is that byte
pub merge : (a b : ℕ) (ns : List ℕ) (at end : ℕ) → a < 8 → fields_to (a ∷ b ∷ ns) at end ≡ fields_to ((a + b) ∷ ns) at end
unfolding fields_to
merge a b ns at end h = ⊎_elim
    (λ t. let q : 8 * at + a + b ≡ 8 * at + (a + b) = omega arith in
    sym (bits_on a (b ∷ ns) (8 * at) end (omega arith) (bits_on b ns (8 * at + a) end (omega arith) refl))
    ∙ ap (λ p. bits_to ns p end) q ∙ bits_on (a + b) ns (8 * at) end (omega arith) refl)
    (λ t. ⊎_elim
    (λ u. sym (bits_on a (b ∷ ns) (8 * at) end (omega arith) (bits_past b ns (8 * at + a) end at (omega arith) (omega arith))))
    (λ u. sym (bits_past a (b ∷ ns) (8 * at) end at (omega arith) (omega arith)))
    (eq-zero-or-pos (8 * at + a - 8 * end))
    ∙ bits_past (a + b) ns (8 * at) end at (omega arith) (omega arith))
    (eq-zero-or-pos (8 * at + (a + b) - 8 * end))

-- a head is passed in two parts, of which the first is of whole bytes
then_pick : (t : Bool) (w : Walk) (x : ℕ) (k : ℕ → Walk) → pick t (then w k) (Err x) ≡ then (pick t w (Err x)) k
unfolding then
then_pick true w x k = refl
then_pick false w x k = refl

bits_split : (ns ms : List ℕ) (p q end : ℕ) → p + total ns ≡ 8 * q
    → bits_to (ns ++ ms) p end ≡ then (bits_to ns p end) (λ b. fields_to ms b end)
unfolding bits_to fields_to then
bits_split [] ms p q end h = let e : p ≡ 8 * (p / 8) = omega arith in ap (λ p. bits_to ms p end) e
bits_split (n ∷ ns) ms p q end h =
    ap (λ w. pick (leb (p + n) (8 * end)) w (Err (p / 8))) (bits_split ns ms (p + n) q end (omega arith))
    ∙ then_pick (leb (p + n) (8 * end)) _ (p / 8) _

pub split : (ns ms : List ℕ) (k : ℕ) → total ns ≡ 8 * k → (at end : ℕ)
    → fields_to (ns ++ ms) at end ≡ then (fields_to ns at end) (λ b. fields_to ms b end)
unfolding fields_to
split ns ms k whole at end = bits_split ns ms (8 * at) (at + k) end (omega arith)
