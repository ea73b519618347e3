-- Laws of every format, and so of every table: what is accepted, of which value the bytes are, and how what has a head and what
-- is put together walk.
use Prim.Native.Nat.{ℕ, ◌+◌, ◌-◌, ◌*◌, ◌≤◌, ◌<◌}
use mathlib.Core.Path.{◌≡◌, refl, sym, ap, ◌∙◌}
use mathlib.Core.Logic.{◌↔◌}
use mathlib.Core.List.{List, [], ◌∷◌, ◌++◌}
use native.Mathlib.Omega.{arith}
use lib.ListN.{length, take, drop, length-append}
use Rattle.std.specs.Prelude.{Ok, Err}
use Rattle.bytes_at.specs.Walks.{then, Walk}
use Rattle.bytes_at.proofs.WalkLaws.{then_inv}
use Rattle.format.specs.Repeats.{Bytes}
use Rattle.format.specs.Lawful.{total}
use Rattle.format.specs.Laws.OfBytes.{part_length}
use Rattle.format.proofs.KeptLaws.{laws}
use Rattle.format.specs.Formats.{Format, Filling, Reader, Full, head, walks}
use Rattle.format.proofs.FieldLaws.{fields_end}

-- the bytes of s from a to e
abbrev pub between : List ℕ → ℕ → ℕ → List ℕ
between s a e = take (e - a) (drop a s)

-- ---- a container that lies within a section's bytes
module _ (s : List ℕ) (end at : ℕ) (h : at ≤ end) (m : end ≤ length s) (z : Bytes s) where
  -- a walk comes to e exactly when the bytes up to e are those of a well-formed value
  pub accepted : {C : Type 0} (f : Format C) (c : C) (e : ℕ)
      → (f.walk c s end at ≡ Ok e) ↔ ((x : f.Val) × (f.Formed c x × (((at ≤ e) × (e ≤ end)) × (between s at e ≡ f.enc x))))
  accepted f c e = (
    (λ w.
        let u = (f.law laws c).complete s end at e h m z w in
        let n : e - at ≡ length (f.enc u.0) = omega arith in
        (u.0, (u.1.0, ((f.law laws c).within s end at e h w, ap (λ k. take k (drop at s)) n ∙ u.1.1.0)))),
    (λ u.
        let n : length (f.enc u.0) ≡ e - at = sym (ap length u.1.1.1) ∙ part_length s (e - at) at (omega arith) in
        let l = ap (λ k. take k (drop at s)) n ∙ u.1.1.1 in
        (f.law laws c).sound s end at u.0 u.1.0 l (omega arith) ∙ ap Ok (omega arith)),
  )

  -- a filling's walk comes to the container's end exactly when all its bytes are those of a well-formed value
  pub accepted_all : {C : Type 0} (f : Filling C) (c : C)
      → (f.walk c s end at ≡ Ok end) ↔ ((x : f.Val) × (f.Formed c x × (between s at end ≡ f.enc x)))
  accepted_all f c = (
    (λ w.
        let u = (f.law laws c).complete s end at h m z w in
        let n : end - at ≡ length (f.enc u.0) = omega arith in
        (u.0, (u.1.0, ap (λ k. take k (drop at s)) n ∙ u.1.1.0))),
    (λ u.
        let n : length (f.enc u.0) ≡ end - at = sym (ap length u.1.1) ∙ part_length s (end - at) at (omega arith) in
        let l = ap (λ k. take k (drop at s)) n ∙ u.1.1 in
        (f.law laws c).sound s end at u.0 u.1.0 l (omega arith)),
  )

-- ---- bytes are those of one value only
pub once : {C : Type 0} (f : Format C) (c : C) {l : List ℕ} (x y : f.Val) → f.Formed c x → f.Formed c y
    → l ≡ f.enc x → l ≡ f.enc y → x ≡ y
once f c x y o r e g = (f.law laws c).unique x y [] [] o r (ap (λ l. l ++ []) (sym e ∙ g))

pub once_all : {C : Type 0} (f : Filling C) (c : C) {l : List ℕ} (x y : f.Val) → f.Formed c x → f.Formed c y
    → l ≡ f.enc x → l ≡ f.enc y → x ≡ y
once_all f c x y o r e g = (f.law laws c).unique x y o r (sym e ∙ g)

-- ---- heads
-- what has a head is not empty
pub head_full : {C : Type 0} (ns : List ℕ) (k : ℕ) (whole : total ns ≡ 8 * k) (r : Reader k C) (f : Format C) → 0 < k
    → Full (head ns k whole r f)
head_full ns k whole r f h x o = omega (arith, length-append x.0 (f.enc x.1))

-- what has a head goes forward, and stays within its container
pub head_forward : {C : Type 0} (n : ℕ) (ns : List ℕ) (k : ℕ) (whole : total (n ∷ ns) ≡ 8 * k) (r : Reader k C) (f : Format C)
    (s : List ℕ) (end at e : ℕ) → walks (head (n ∷ ns) k whole r f) s end at ≡ Ok e → (at + k ≤ e) × (e ≤ end)
head_forward n ns k whole r f s end at e w =
    let p = then_inv _ _ e w in
    let t = fields_end n ns k whole at end p.0 p.1.0 in
    let i = (f.law laws (r.read s p.0)).within s end p.0 e t.1 p.1.1 in
    (omega arith, i.1)

-- ---- sequences
-- what is put together on the left walks as what is put together on the right
pub then_assoc : (w : Walk) (k l : ℕ → Walk) → then (then w k) l ≡ then w (λ a. then (k a) l)
unfolding then
then_assoc (Ok a) k l = refl
then_assoc (Err a) k l = refl
