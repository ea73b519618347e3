-- Laws of lists of bytes that stand in a section, and of steps over a number of bytes.
use Rattle.std.specs.Prelude.{ℕ, zero, suc, ◌+◌, ◌-◌, ◌*◌, ◌/◌, ◌≤◌, ◌<◌, ◌≡◌, refl, ◌⊎◌, List, [], ◌∷◌, ◌++◌, Bool, true, false, length, take, drop, leb, Ok, Err}
use Rattle.std.proofs.Math.Path.{sym, ap}
use Rattle.std.proofs.Common.{◌∙◌, inl, inr, ⊎_elim, eq-zero-or-pos, length-append, length-take, length-drop, take-add, drop-drop, length-take-le, take_at, drop_at, get_or-take, get_or-drop, leb-true}
use Rattle.std.proofs.lemmas.List.{append_cancel_left}
use native.Mathlib.Omega.{arith}
use Rattle.std.proofs.Math.ListN.{get_or-eq_default}
use Rattle.logic.specs.Choices.{pick}
use Rattle.bytes_at.specs.Fields.{byte_at}
use Rattle.bytes_at.specs.Walks.{skip_to, bits_to}
use Rattle.bytes_at.proofs.WalkLaws.{never, skipped, skip_fits}
use Rattle.format.specs.Lawful.{Walker, Lies, Lawful}
use Rattle.format.specs.Repeats.{Bytes}

-- ---- lists that stand in a section
-- two lists of one length that begin one list are one
pub same_front : (a b p q : List ℕ) → length a ≡ length b → a ++ p ≡ b ++ q → (a ≡ b) × (p ≡ q)
same_front a b p q h e = (
  sym (take_at a p (length a) refl) ∙ ap (take (length a)) e ∙ take_at b q (length a) (sym h),
  sym (drop_at a p (length a) refl) ∙ ap (drop (length a)) e ∙ drop_at b q (length a) (sym h),
)

-- what follows two equal encodings
pub after : {X : Type 0} (enc : X → List ℕ) (x y : X) (p q : List ℕ) → x ≡ y → enc x ++ p ≡ enc y ++ q → p ≡ q
after enc x y p q e f = append_cancel_left (enc y) p q (rw e at f)

pub lies_at : (l s : List ℕ) (a b : ℕ) → a ≡ b → Lies l s a → Lies l s b
lies_at l s a b e h = rw e at h

pub lies_join : (a b s : List ℕ) (at : ℕ) → Lies a s at → Lies b s (at + length a) → Lies (a ++ b) s at
lies_join a b s at p q = rw (length-append, take-add, p, drop-drop, q)

pub lies_split : (a b s : List ℕ) (at : ℕ) → Lies (a ++ b) s at → Lies a s at × Lies b s (at + length a)
lies_split a b s at e =
    let l : length a + length b ≤ length (drop at s) =
    omega (arith, ap length e, length-take (length (a ++ b)) (drop at s), length-append a b) in
    let f : take (length a) (drop at s) ++ take (length b) (drop (length a) (drop at s)) ≡ a ++ b =
    sym (take-add (length a) (length b) (drop at s)) ∙ (rw length-append at e) in
    let g = same_front _ a _ b (length-take-le (length a) (drop at s) (omega arith)) f in
    (g.0, ap (take (length b)) (sym (drop-drop (length a) at s)) ∙ g.1)

-- a byte of a list is the byte where it stands
pub lies_byte : (h s : List ℕ) (at i j : ℕ) → Lies h s at → j < length h → i ≡ at + j → byte_at s i ≡ byte_at h j
lies_byte h s at i j l k e =
    ap (byte_at s) e ∙ sym (get_or-drop at s j 0) ∙ sym (get_or-take (length h) (drop at s) j 0 k) ∙ ap (λ l. byte_at l j) l

-- the k bytes at a place
module _ (s : List ℕ) (k at : ℕ) where
  pub part_bytes : Bytes s → Bytes (take k (drop at s))
  part_bytes z i = ⊎_elim
      (λ h. rw (get_or-eq_default (take k (drop at s)) 0 {n = i} (omega (arith, length-take k (drop at s)))) (omega arith))
      (λ h. rw (get_or-take k (drop at s) i 0 (omega arith), get_or-drop at s i 0) (z (at + i)))
      (eq-zero-or-pos (k - i))

  pub part_length : at + k ≤ length s → length (take k (drop at s)) ≡ k
  part_length h = length-take-le k (drop at s) (omega (arith, length-drop at s))

  pub part_lies : at + k ≤ length s → Lies (take k (drop at s)) s at
  part_lies h = rw (part_length h)

-- bytes after bytes
pub bytes_append : (p q : List ℕ) → Bytes p → Bytes q → Bytes (p ++ q)
bytes_append [] q a b i = b i
bytes_append (x ∷ p) q a b zero = a 0
bytes_append (x ∷ p) q a b (suc i) = bytes_append p q (λ j. a (suc j)) b i

-- ---- heads of fields
-- what a choice is, one of its sides is
pub pick_inv : {A : Type 0} (t : Bool) (a b x : A) → pick t a b ≡ x → ((t ≡ true) × (a ≡ x)) ⊎ ((t ≡ false) × (b ≡ x))
pick_inv true a b x e = inl (refl, e)
pick_inv false a b x e = inr (refl, e)

-- a head that is passed begins within its container
pub bits_begin : (n : ℕ) (ns : List ℕ) (p end b : ℕ) → bits_to (n ∷ ns) p end ≡ Ok b
    → (p + n ≤ 8 * end) × (bits_to ns (p + n) end ≡ Ok b)
unfolding bits_to
bits_begin n ns p end b e = ⊎_elim (λ t. (leb-true (p + n) (8 * end) t.0, t.1)) (λ t. never (p / 8) b t.1)
    (pick_inv (leb (p + n) (8 * end)) (bits_to ns (p + n) end) (Err (p / 8)) (Ok b) e)

-- ---- bytes that are taken as they are
module _ (k : ℕ) (W : Walker) (fit : (s : List ℕ) (end at : ℕ) → at + k ≤ end → W s end at ≡ Ok (at + k))
    (took : (s : List ℕ) (end at e : ℕ) → at ≤ end → W s end at ≡ Ok e → (e ≡ at + k) × (e ≤ end)) where
  pub bytes_law : Lawful {X = List ℕ} W (λ x. (length x ≡ k) × Bytes x) (λ x. x)
  bytes_law = record {
    sound = λ s end at x o l h. rw o.0 (fit s end at (omega arith));
    complete = λ s end at e h m z w.
        let a = took s end at e h w in
        let l = part_length s k at (omega arith) in
        (take k (drop at s), ((l, part_bytes s k at z), (part_lies s k at (omega arith), omega arith)));
    unique = λ x y p q o r e. (same_front x y p q (o.0 ∙ sym r.0) e).0;
    within = λ s end at e h w. let a = took s end at e h w in (omega arith, a.1);
    bytes = λ x o. o.1;
  }

pub raw_law : (back n : ℕ)
    → Lawful {X = List ℕ} (λ s end at. skip_to back at n end) (λ x. (length x ≡ n) × Bytes x) (λ x. x)
raw_law back n =
    bytes_law n _ (λ s end at h. sym (skip_fits back at n end h)) (λ s end at e h. skipped back at n end e)
