-- An event that a walk has passed: its parts, where it ends, and that its title and its descriptors are sound where they stand.
use Prim.Native.Nat.{ℕ, ◌≤◌, ◌<◌}
use mathlib.Core.Path.{◌≡◌, refl, subst}
use mathlib.Core.List.{List, [], ◌∷◌}
use native.Mathlib.Omega.{arith}
use Rattle.std.specs.Prelude.{Ok}
use Rattle.bytes_at.proofs.WalkLaws.{then_inv}
use Rattle.format.specs.Formats.{walks, walks_all}
use Rattle.format.specs.Values.{behind}
use Rattle.format.proofs.FieldLaws.{fields_end}
use Rattle.part.specs.Parts.{end_of}
use Rattle.strings.specs.Strings.{text, sized_text}
use Rattle.strings.specs.Places.{text_at, text_end}
use Rattle.strings.proofs.TextLaws.{text_end_lem, text_inside, text_sound}
use Rattle.descriptor.specs.Descriptors.{descriptors, content_advisory}
use Rattle.descriptor.specs.Places.{list12, list_at, list_end}
use Rattle.descriptor.proofs.ListLaws.{ListPassed, list12_passed}
use Rattle.eit.specs.Format.{event_head}
use Rattle.eit.specs.Walked.{event}
use Rattle.eit.specs.Fields.{title_part, descriptors_at, event_end}

module _ (s : List ℕ) (end a b : ℕ) (w : walks event s end a ≡ Ok b) where
  pub event_parts : (c : ℕ) × ((walks sized_text s end (behind event_head a) ≡ Ok c) × (walks (list12 content_advisory) s end c ≡ Ok b))
  unfolding event sized_text list12
  event_parts =
      let p = then_inv _ _ b w in
      let t = fields_end 16 (32 ∷ 4 ∷ 20 ∷ []) 9 refl a end p.0 p.1.0 in
      let q = then_inv _ _ b p.1.1 in
      (q.0, (subst (λ c. walks sized_text s end c ≡ Ok q.0) t.0 q.1.0, q.1.1))

  -- the descriptors stand where the title ends
  listed : ListPassed content_advisory 4096 s end (text_end s (behind event_head a)) b
  listed =
      let p = event_parts in
      subst (λ c. ListPassed content_advisory 4096 s end c b) (text_end_lem s end (behind event_head a) p.0 p.1.0)
      (list12_passed content_advisory s end p.0 b p.1.1)

  pub event_ends : b ≡ event_end s a
  unfolding event_end
  event_ends = listed.ends

  pub event_forward : (a < b) × (b ≤ end)
  event_forward =
      let p = event_parts in
      let t = text_inside s end (behind event_head a) p.0 p.1.0 in
      let l = list12_passed content_advisory s end p.0 b p.1.1 in
      (omega arith, l.inside)

  pub title_sound : (end_of (title_part s a) ≤ end) × (walks_all text s (end_of (title_part s a)) (title_part s a).start ≡ Ok (end_of (title_part s a)))
  unfolding title_part text_at text_end
  title_sound =
      let p = event_parts in
      let e = text_end_lem s end (behind event_head a) p.0 p.1.0 in
      (omega (arith, e, text_inside s end (behind event_head a) p.0 p.1.0), text_sound s end (behind event_head a) p.0 p.1.0)

  pub descriptors_sound : (end_of (descriptors_at s a) ≤ end)
      × (walks_all (descriptors content_advisory) s (end_of (descriptors_at s a)) (descriptors_at s a).start ≡ Ok (end_of (descriptors_at s a)))
  unfolding descriptors_at list_at list_end
  descriptors_sound = let l = listed in (omega arith, l.sound)
