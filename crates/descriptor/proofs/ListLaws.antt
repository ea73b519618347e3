-- Laws of a descriptor, which goes forward, and of a descriptor list with its length before it: where it ends, and that its place is what its
-- format says.
use Prim.Native.Nat.{ℕ, ◌+◌, ◌-◌, ◌%◌, ◌≤◌, ◌<◌}
use mathlib.Core.Path.{◌≡◌, refl, ap, subst}
use mathlib.Core.List.{List, [], ◌∷◌}
use native.Mathlib.Omega.{arith}
use lib.ListN.{length}
use Rattle.std.specs.Prelude.{Ok}
use Rattle.bytes_at.specs.Fields.{word_at}
use Rattle.bytes_at.proofs.WalkLaws.{then_inv, skipped}
use Rattle.format.proofs.KeptLaws.{laws}
use Rattle.format.specs.Lawful.{Lies}
use Rattle.format.specs.Repeats.{Bytes}
use Rattle.format.specs.Formats.{last_byte, last_but_one, both, filled_by, walks, walks_all}
use Rattle.format.specs.Told.{sized12, sized10}
use Rattle.format.proofs.FieldLaws.{fields_end}
use Rattle.format.proofs.FormatLaws.{head_forward}
use Rattle.format.proofs.SizedLaws.{sized12_there, sized10_there}
use Rattle.descriptor.specs.Descriptors.{descriptor, descriptors, content}
use Rattle.descriptor.specs.Places.{list12, list10, list_at, list_end}
use Rattle.descriptor.specs.Inner.{sized_descriptors}

-- a descriptor takes at least its tag and its length, and stays within the list
pub descriptor_forward : (judged : ℕ) (s : List ℕ) (end at e : ℕ) → walks (descriptor judged) s end at ≡ Ok e → (at + 2 ≤ e) × (e ≤ end)
unfolding descriptor
descriptor_forward judged = head_forward 8 (8 ∷ []) 2 refl (both last_byte last_but_one) (filled_by 1 (content judged))

-- ---- a list with its length before it
-- where a walk past it stands: it ends there, and its descriptors fill what is between
module _ (judged m : ℕ) (s : List ℕ) (end at b : ℕ) (w : walks (sized_descriptors judged m) s end at ≡ Ok b) where
  sized_passed : (b ≡ at + 2 + word_at s at % m) × ((b ≤ end) × (walks_all (descriptors judged) s b (at + 2) ≡ Ok b))
  unfolding sized_descriptors
  sized_passed =
      let p = then_inv _ _ b w in
      let t = fields_end 16 [] 2 refl at end p.0 p.1.0 in
      let q = then_inv _ _ b p.1.1 in
      let u = skipped 2 p.0 (word_at s (p.0 - 2) % m) end q.0 q.1.0 in
      let v = ((descriptors judged).law laws (record {})).whole s q.0 p.0 b q.1.1 in
      let z : word_at s (p.0 - 2) % m ≡ word_at s at % m = ap (λ (i : ℕ). word_at s i % m) (omega arith) in (
        omega (arith, t, u, v, z),
        (omega (arith, u, v), subst (λ e. walks_all (descriptors judged) s e (at + 2) ≡ Ok b) (omega (arith, v)) (subst (λ a. walks_all (descriptors judged) s q.0 a ≡ Ok b) t.0 q.1.1)),
      )

-- what is known of a list that a walk has passed
pub record ListPassed (judged m : ℕ) (s : List ℕ) (end at b : ℕ) : Type 0 where
  pub ends : b ≡ list_end m s at
  pub forward : at < b
  pub inside : b ≤ end
  pub sound : walks_all (descriptors judged) s (list_end m s at) (at + 2) ≡ Ok (list_end m s at)

passed : (judged m : ℕ) (s : List ℕ) (end at b : ℕ) → walks (sized_descriptors judged m) s end at ≡ Ok b → ListPassed judged m s end at b
unfolding list_end
passed judged m s end at b w =
    let p = sized_passed judged m s end at b w in
    record {
      ends = p.0;
      forward = omega (arith, p.0);
      inside = p.1.0;
      sound = subst (λ e. walks_all (descriptors judged) s e (at + 2) ≡ Ok e) p.0 p.1.1;
    }

pub list12_passed : (judged : ℕ) (s : List ℕ) (end at b : ℕ) → walks (list12 judged) s end at ≡ Ok b → ListPassed judged 4096 s end at b
unfolding list12 sized_descriptors
list12_passed judged s end at b w = passed judged 4096 s end at b w

pub list10_passed : (judged : ℕ) (s : List ℕ) (end at b : ℕ) → walks (list10 judged) s end at ≡ Ok b → ListPassed judged 1024 s end at b
unfolding list10 sized_descriptors
list10_passed judged s end at b w = passed judged 1024 s end at b w

-- where a list lies with its length, its place is this
module _ (judged : ℕ) (s : List ℕ) (at : ℕ) (z : Bytes s) (r : ℕ) (x : (descriptors judged).Val) where
  pub list12_there : (sized12 (descriptors judged)).Formed (record {}) ((r, record {}), x)
      → Lies ((sized12 (descriptors judged)).enc ((r, record {}), x)) s at
      → (list_at 4096 s at ≡ record { start = at + 2; length = length ((descriptors judged).enc x) }) × Lies ((descriptors judged).enc x) s (at + 2)
  unfolding list_at
  list12_there o l =
      let t = sized12_there s z at (descriptors judged) r x o l in
      ((λ i. record { start = at + 2; length = t.0 i }), t.1)

  pub list10_there : (sized10 (descriptors judged)).Formed (record {}) ((r, record {}), x)
      → Lies ((sized10 (descriptors judged)).enc ((r, record {}), x)) s at
      → (list_at 1024 s at ≡ record { start = at + 2; length = length ((descriptors judged).enc x) }) × Lies ((descriptors judged).enc x) s (at + 2)
  unfolding list_at
  list10_there o l =
      let t = sized10_there s z at (descriptors judged) r x o l in
      ((λ i. record { start = at + 2; length = t.0 i }), t.1)
