-- The text of a region that is found in a descriptor list that was judged is sound.
use Prim.Native.Nat.{ℕ, suc, ◌+◌, ◌-◌, ◌%◌, ◌≤◌}
use mathlib.Core.Path.{◌≡◌, refl, sym, ap, ◌∙◌, subst}
use mathlib.Core.List.{List, [], ◌∷◌}
use native.Mathlib.Numerals.{sub-one}
use native.Mathlib.Omega.{arith}
use lib.ListN.{length}
use borrow.Author.Tests.{eq-eqb}
use Rattle.part.specs.declared.Part.{Part}
use Rattle.std.specs.Prelude.{Ok, Option, None, Some}
use Rattle.bytes_at.specs.Fields.{byte_at}
use Rattle.bytes_at.specs.Walks.{many, Walk}
use Rattle.bytes_at.specs.Inner.{Stands}
use Rattle.bytes_at.proofs.WalkLaws.{then_inv, skipped}
use Rattle.format.specs.Formats.{walks, walks_all}
use Rattle.format.proofs.FieldLaws.{fields_end}
use Rattle.strings.specs.Places as places
use Rattle.descriptor.specs.Descriptors.{region, advisory, content, descriptor, descriptors, content_advisory}
use Rattle.rating.specs.Ratings.{descriptor_size, rated_size, region_size, region_in, region_text_at, text_in}
use Rattle.rating.proofs.DescriptorLaws.{two, Sound, sound_first}
use Rattle.rating.proofs.AnswerLaws.{first_left}
use Rattle.rating.proofs.MatchLaws.{text_behind, region_taken}
use Rattle.section_text.proofs.PlaceLaws.{SoundIn, sized_sound}

-- the text that is found, if there is one, is sound where it stands
abbrev pub SoundText : List ℕ → Option Part → Type 0
SoundText s None = record {}
SoundText s (Some t) = SoundIn s t.start t.length

-- ---- the regions of an advisory are passed
-- the walk past the regions of an advisory whose region count stands at a place
abbrev Regions : List ℕ → ℕ → ℕ → Type 0
Regions s end at = Stands (many (walks region s end) (byte_at s at % 64) (at + 1))

behind_count : (s : List ℕ) (end at b c : ℕ) → b ≡ at + 1 → many (walks region s end) (byte_at s (b - 1) % 64) b ≡ Ok c → Regions s end at
behind_count s end at b c e w = let i : at + 1 - 1 ≡ at = omega arith in (c, rw (e, i) at w)

advisory_passed : (s : List ℕ) (end at c : ℕ) → walks advisory s end at ≡ Ok c → Regions s end at
unfolding advisory
advisory_passed s end at c w =
    let p = then_inv _ _ c w in
    behind_count s end at p.0 c (fields_end 8 [] 1 refl at end p.0 p.1.0).0 p.1.1

-- where the tag is the judged one, the content is an advisory
content_passed : (s : List ℕ) (end at tag b : ℕ) → tag ≡ content_advisory → (content content_advisory).walk tag s end at ≡ Ok b
    → Regions s end at
unfolding content
content_passed s end at tag b e w =
    let p = then_inv _ _ b (rw (eq-eqb content_advisory tag (sym e)) at w) in
    advisory_passed s end at p.0 p.1.0

-- the same by other terms for the places
regions_at : (s : List ℕ) (end at e a b : ℕ) → end ≡ e → at ≡ a → a + 1 ≡ b → Regions s end at
    → Stands (many (walks region s e) (byte_at s a % 64) b)
regions_at s end at e a b p q r g =
    subst (λ x. Stands (many (walks region s e) (byte_at s a % 64) x)) r (subst (λ x. Regions s x a) p (subst (Regions s end) q g))

descriptor_passed : (s : List ℕ) (end a b : ℕ) → byte_at s a ≡ content_advisory → walks (descriptor content_advisory) s end a ≡ Ok b
    → Stands (many (walks region s (a + descriptor_size s a)) (byte_at s (a + 2) % 64) (a + 3))
unfolding descriptor descriptor_size
descriptor_passed s end a b tag w =
    let p = then_inv _ _ b w in
    let t = fields_end 8 (8 ∷ []) 2 refl a end p.0 p.1.0 in
    let q = then_inv _ _ b p.1.1 in
    let u = skipped 1 p.0 (byte_at s (p.0 - 1)) end q.0 q.1.0 in
    let i : byte_at s (p.0 - 2) ≡ byte_at s a = ap (byte_at s) (omega arith) in
    let j : byte_at s (p.0 - 1) ≡ byte_at s (a + 1) = ap (byte_at s) (omega arith) in
    regions_at s q.0 p.0 _ (a + 2) (a + 3) (omega arith) t.0 (omega arith)
    (content_passed s q.0 p.0 _ b (i ∙ tag) q.1.1)

-- ---- what is found
-- the first of those that are passed, and the others
next : (p : ℕ → Walk) (n at : ℕ) (g : Stands (many p (suc n) at)) → (b : ℕ) × ((p at ≡ Ok b) × (many p n b ≡ Ok g.0))
unfolding many
next p n at g = then_inv (p at) (many p n) g.0 g.1

module _ (s : List ℕ) (end number : ℕ) (inside : end ≤ length s) where
  in_advisory : (a b : ℕ) → a + descriptor_size s a ≤ end → byte_at s a ≡ content_advisory → walks (descriptor content_advisory) s end a ≡ Ok b
      → SoundText s (region_in s number a (region_text_at s) None)
  unfolding places.text_at
  in_advisory a b h tag w =
      first_left (SoundText s) s (region_size s) (a + descriptor_size s a) number (region_text_at s) None
      (λ n at. Stands (many (walks region s (a + descriptor_size s a)) n at))
      (λ n at l g.
      let q = next _ n at g in
      let t = region_taken s (a + descriptor_size s a) at q.0 q.1.0 in
      (g.0, ap (many (walks region s (a + descriptor_size s a)) n) (sym t.0) ∙ q.1.1))
      (record {})
      (λ n at l g e.
      let q = next _ n at g in
      sized_sound s (a + descriptor_size s a) (at + rated_size s at) q.0 (omega arith) (text_behind s _ at q.0 q.1.0))
      (byte_at s (a + 2) % 64) (a + 3) (descriptor_passed s end a b tag w)

  pub advisory_sound : (from : ℕ) → walks_all (descriptors content_advisory) s end from ≡ Ok end → SoundText s (text_in s number end from)
  unfolding descriptors text_in
  advisory_sound from w =
      first_left (SoundText s) s (descriptor_size s) end content_advisory _ None (Sound content_advisory s end)
      (λ n at h g.
      let p = sound_first content_advisory s end (suc n) at g (omega (arith, two s at)) in
      subst (Sound content_advisory s end n) p.1.1.0.0 (rw sub-one at p.1.1.1))
      (record {})
      (λ n at h g e.
      let p = sound_first content_advisory s end (suc n) at g (omega (arith, two s at)) in
      in_advisory at p.0 h e p.1.0)
      end from (omega arith, w)
