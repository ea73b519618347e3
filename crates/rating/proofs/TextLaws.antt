-- Where the place of a region's text is answered, that text lies there; and where none is, the list has none.
use Rattle.std.specs.Prelude.{Option, None, Some}
use Prim.Native.Nat.{ℕ, ◌+◌}
use mathlib.Core.Path.{◌≡◌, refl, subst}
use mathlib.Core.Logic.{inl, inr}
use mathlib.Core.List.{List}
use lib.ListN.{length}
use Rattle.std.specs.Prelude.{Option, None, Some}
use Rattle.part.specs.declared.Part.{Part}
use Rattle.format.specs.Lawful.{Lies}
use Rattle.format.specs.Repeats.{Bytes}
use Rattle.strings.specs.Strings.{text, sized_text}
use Rattle.descriptor.specs.Descriptors.{region, advisory, content, descriptor, descriptors, descriptors_of, region_bytes, descriptor_bytes, content_advisory}
use Rattle.rating.specs.Values.{text_from, text_by, region_place, place_from, text_place}
use Rattle.rating.proofs.ListedLaws.{sought_there}
use Rattle.rating.proofs.ValueLaws.{text_values, advisory_values, descriptor_values}

-- the text is well formed and lies at the place; or there is neither
abbrev Stands : List ℕ → Option Part → Option text.Val → Type 0
Stands s (Some p) (Some t) = text.Formed (record {}) t × (Lies (text.enc t) s p.start × (p.length ≡ length (text.enc t)))
Stands s (Some p) None = ⊥
Stands s None (Some t) = ⊥
Stands s None None = record {}

one_stands : (s : List ℕ) (p : Part) (q : Option text.Val) → Stands s (Some p) q → (t : text.Val) × ((q ≡ Some t) × Stands s (Some p) (Some t))
one_stands s p (Some t) h = (t, (refl, h))
one_stands s p None h = absurd h

none_stands : (s : List ℕ) (q : Option text.Val) → Stands s None q → q ≡ None
none_stands s (Some t) h = absurd h
none_stands s None h = refl

module _ (s : List ℕ) (z : Bytes s) (x : ℕ) where
  region_stands : (p : ℕ) (g : region.Val) → region.Formed (record {}) g → Lies (region.enc g) s p
      → unfold region in (Stands s (region_place p g) (Some g.text))
  unfolding region sized_text region_place
  region_stands p g o l = (o.1.1.1.1, ((text_values s z p g o l).1, refl))

  content_stands : (a tag : ℕ) (c : (content content_advisory).Val) → (content content_advisory).Formed tag c
      → Lies ((content content_advisory).enc c) s (a + 2) → unfold content advisory in (Stands s (place_from x a c) (text_from x c))
  unfolding content advisory region region_bytes place_from text_from
  content_stands a tag (inl v) o l =
      sought_there (region.Formed (record {})) region.enc (λ g. g.region) s x (Stands s) region_place None (λ g. Some g.text) None (record {})
      region_stands (a + 3) v.regions o.1.1.1.1 (advisory_values s z a v o.1 l).1
  content_stands a tag (inr b) o l = record {}

  module _ (from : ℕ) (ds : (descriptors content_advisory).Val) (o : (descriptors content_advisory).Formed (record {}) ds)
      (l : Lies ((descriptors content_advisory).enc ds) s from) where
    text_stands : Stands s (text_place x from (descriptors_of content_advisory ds)) (text_by x (descriptors_of content_advisory ds))
    unfolding descriptors descriptor content advisory descriptors_of descriptor_bytes text_place text_by
    text_stands =
        let f = descriptor content_advisory in
        sought_there (f.Formed (record {})) f.enc (λ d. d.tag) s content_advisory (Stands s) (λ a d. place_from x a d.content) None
        (λ d. text_from x d.content) None (record {})
        (λ a d o l. content_stands a d.tag d.content o.1.1.1 (descriptor_values content_advisory s z a d o l).1) from ds o l

    pub text_lies : (p : Part) → text_place x from (descriptors_of content_advisory ds) ≡ Some p
        → (t : text.Val) × ((text_by x (descriptors_of content_advisory ds) ≡ Some t)
        × (text.Formed (record {}) t × (Lies (text.enc t) s p.start × (p.length ≡ length (text.enc t)))))
    text_lies p e = one_stands s p _ (subst (λ q. Stands s q (text_by x (descriptors_of content_advisory ds))) e text_stands)

    pub text_none : text_place x from (descriptors_of content_advisory ds) ≡ None → text_by x (descriptors_of content_advisory ds) ≡ None
    text_none e = none_stands s _ (subst (λ q. Stands s q (text_by x (descriptors_of content_advisory ds))) e text_stands)
