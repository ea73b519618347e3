-- Descriptor number k of a list is where the format's walk of k descriptors stands.
use Prim.Native.Nat.{ℕ, zero, suc, ◌+◌, ◌-◌, ◌*◌, ◌≤◌, ◌<◌}
use mathlib.Core.Path.{◌≡◌, refl, sym, ap, ◌∙◌}
use mathlib.Core.Logic.{◌↔◌, ⊎_elim}
use mathlib.Core.List.{List, [], ◌∷◌}
use native.Mathlib.Nat.{eq-zero-or-pos}
use native.Mathlib.Numerals.{sub-one}
use native.Mathlib.Omega.{arith}
use Rattle.std.specs.Prelude.{Ok, None, Some}
use Rattle.bytes_at.specs.Fields.{byte_at}
use Rattle.bytes_at.specs.Walks.{many}
use Rattle.bytes_at.proofs.WalkLaws.{to_is, then_to, then_inv, skipped, ended}
use Rattle.format.proofs.KeptLaws.{laws}
use Rattle.format.specs.Lawful.{unto}
use Rattle.format.specs.Formats.{walks, walks_all}
use Rattle.format.proofs.FieldLaws.{fields_end}
use Rattle.format.proofs.RepeatLaws.{list_none, list_first}
use Rattle.descriptor.specs.Descriptors.{content, descriptor, descriptors}
use Rattle.rating.specs.Ratings.{descriptor_size, descriptor_at, descriptor_in}
use Rattle.rating.specs.declared.Descriptor.{Descriptor}
use Rattle.rating.proofs.FirstLaws.{none_past, descriptor_here, descriptor_next}

-- ---- what may be missing
some_is : {A : Type 0} {x y : A} → Some x ≡ Some y → x ≡ y
some_is e = cc

nothing_is : {A B : Type 0} {x : A} → None ≡ Some x → B
nothing_is e = let z : ◌≡◌ {A = ℕ} 0 1 = cc in absurd (omega arith)

-- ---- descriptors
-- a descriptor takes its size, and stays within the list
pub size_taken : (judged : ℕ) (s : List ℕ) (end at e : ℕ) → walks (descriptor judged) s end at ≡ Ok e
    → (e ≡ at + descriptor_size s at) × (e ≤ end)
unfolding descriptor descriptor_size
size_taken judged s end at e w =
    let p = then_inv _ _ e w in
    let t = fields_end 8 (8 ∷ []) 2 refl at end p.0 p.1.0 in
    let q = then_inv _ _ e p.1.1 in
    let u = skipped 1 p.0 (byte_at s (p.0 - 1)) end q.0 q.1.0 in
    let v = ((content judged).law laws (byte_at s (p.0 - 2))).whole s q.0 p.0 e q.1.1 in
    let n : p.0 - 1 ≡ at + 1 = omega arith in
    (omega (arith, ap (byte_at s) n), omega arith)

pub two : (s : List ℕ) (at : ℕ) → 2 ≤ descriptor_size s at
unfolding descriptor_size
two s at = omega arith

-- within a list, whether it is sound or not
pub descriptor_within : (s : List ℕ) (end k at : ℕ) (d : Descriptor) → descriptor_in s end k at ≡ Some d
    → (at + 2 ≤ d.start) × (d.start + d.size ≤ end)
unfolding descriptor_size
descriptor_within s end zero at d e = ⊎_elim
    (λ h.
    let x = some_is (descriptor_here s end at _ refl 0 refl (omega arith) ∙ e) in
    (omega (arith, ap (λ d. d.start) x), omega (arith, ap (λ d. d.start) x, ap (λ d. d.size) x)))
    (λ h. nothing_is (none_past s end at _ refl 0 (omega arith) ∙ e))
    (eq-zero-or-pos (at + descriptor_size s at - end))
descriptor_within s end (suc k) at d e = ⊎_elim
    (λ h.
    let x = descriptor_next s end at _ refl (suc k) (λ z. omega arith) (omega arith) ∙ e in
    let y = descriptor_within s end k (at + descriptor_size s at) d (rw sub-one at x) in
    (omega arith, y.1))
    (λ h. nothing_is (none_past s end at _ refl (suc k) (omega arith) ∙ e))
    (eq-zero-or-pos (at + descriptor_size s at - end))

-- a list that is accepted from `at` on, with f enough for its steps
module _ (judged : ℕ) (s : List ℕ) (end : ℕ) where
  abbrev pub Sound : ℕ → ℕ → Type 0
  Sound f at = (end ≤ at + f) × (unto (walks (descriptor judged) s) f end at ≡ Ok end)

  -- its first descriptor, and the rest
  pub sound_first : (f at : ℕ) → Sound f at → at < end
      → (b : ℕ) × ((walks (descriptor judged) s end at ≡ Ok b) × (((b ≡ at + descriptor_size s at) × (b ≤ end)) × Sound (f - 1) b))
  sound_first f at g h =
      let p = then_inv _ _ end (list_first (walks (descriptor judged) s) f end at h g.0 ∙ g.1) in
      let t = size_taken judged s end at p.0 p.1.0 in
      (p.0, (p.1.0, (t, (omega (arith, two s at), p.1.1))))

  -- how many it has
  count_from : (f at : ℕ) → Sound f at → (n : ℕ) × ((many (walks (descriptor judged) s end) n at ≡ Ok end) × (at + 2 * n ≤ end))
  unfolding many
  count_from zero at g =
      let e = ended end at end (list_none (walks (descriptor judged) s) zero end at (omega arith) ∙ g.1) in
      (0, (ap Ok e.0, omega arith))
  count_from (suc f) at g = ⊎_elim
      (λ h.
      let e = ended end at end (list_none (walks (descriptor judged) s) (suc f) end at (omega arith) ∙ g.1) in
      (0, (ap Ok e.0, omega arith)))
      (λ h.
      let p = sound_first (suc f) at g (omega arith) in
      let q = count_from f p.0 (rw sub-one at p.1.1.1) in
      (suc q.0, (then_to _ (many (walks (descriptor judged) s end) q.0) p.0 (Ok end) p.1.0 q.1.0, omega (arith, two s at))))
      (eq-zero-or-pos (end - at))

  pub counted : (from : ℕ) → walks_all (descriptors judged) s end from ≡ Ok end
      → (n : ℕ) × ((many (walks (descriptor judged) s end) n from ≡ Ok end) × (from + 2 * n ≤ end))
  unfolding descriptors
  counted from w = count_from end from (omega arith, w)

  -- where the walk of k descriptors stands, d does
  abbrev There : ℕ → ℕ → Descriptor → Type 0
  There k at d = (a : ℕ) × ((a < end) × ((many (walks (descriptor judged) s end) k at ≡ Ok a) × (d ≡ descriptor_at s a)))

  there : (k f at : ℕ) (d : Descriptor) → Sound f at → at < end → descriptor_in s end k at ≡ Some d → There k at d
  unfolding many
  there zero f at d g h e =
      let p = sound_first f at g h in
      (at, (h, (refl, some_is (sym e ∙ sym (descriptor_here s end at _ refl 0 refl (omega arith))))))
  there (suc k) f at d g h e =
      let p = sound_first f at g h in
      let x = descriptor_next s end at (descriptor_size s at) refl (suc k) (λ z. omega arith) (omega arith) ∙ e in
      let y : descriptor_in s end k p.0 ≡ Some d = rw (sub-one, ← p.1.1.0.0) at x in
      let l = descriptor_within s end k p.0 d y in
      let q = there k (f - 1) p.0 d p.1.1.1 (omega arith) y in
      (q.0, (q.1.0, (then_to _ (many (walks (descriptor judged) s end) k) p.0 (Ok q.0) p.1.0 q.1.1.0, q.1.1.1)))

  back : (k f at : ℕ) (d : Descriptor) → Sound f at → There k at d → descriptor_in s end k at ≡ Some d
  unfolding many
  back zero f at d g q =
      let a = to_is at q.0 q.1.1.0 in
      let h : at < end = omega (arith, q.1.0) in
      let p = sound_first f at g h in
      sym (descriptor_here s end at _ refl 0 refl (omega arith)) ∙ ap (λ a. Some (descriptor_at s a)) (sym a) ∙ ap Some (sym q.1.1.1)
  back (suc k) f at d g q =
      let w = then_inv _ _ q.0 q.1.1.0 in
      let t = size_taken judged s end at w.0 w.1.0 in
      let p = sound_first f at g (omega (arith, two s at)) in
      let n : p.0 ≡ w.0 = omega arith in
      let y = back k (f - 1) p.0 d p.1.1.1 (q.0, (q.1.0, (ap (many (walks (descriptor judged) s end) k) n ∙ w.1.1, q.1.1.1))) in
      sym (descriptor_next s end at (descriptor_size s at) refl (suc k) (λ z. omega arith) (omega arith))
      ∙ rw (sub-one, ← p.1.1.0.0) y

  -- in a list that the walk accepts, descriptor k is exactly what stands where the walk of k descriptors does
  pub descriptor_exactly : (from : ℕ) → walks_all (descriptors judged) s end from ≡ Ok end → (k : ℕ) (d : Descriptor)
      → (descriptor_in s end k from ≡ Some d)
      ↔ ((a : ℕ) × ((a < end) × ((many (walks (descriptor judged) s end) k from ≡ Ok a) × (d ≡ descriptor_at s a))))
  unfolding descriptors
  descriptor_exactly from w k d =
      let g : Sound end from = (omega arith, w) in (
        (λ e. let l = descriptor_within s end k from d e in there k end from d g (omega arith) e),
        (λ q. back k end from d g q),
      )
