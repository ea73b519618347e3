-- Laws of a format that stands several times: a count that must not be 0, and until the container's end.
use Prim.Native.Nat.{ℕ, zero, suc, ◌+◌, ◌-◌, ◌≤◌, ◌<◌}
use Rattle.std.specs.Prelude.{◌≡◌, refl, eqb, ltb, Ok, Err}
use Rattle.std.proofs.Common.{ne_eqb, lt-ltb, le-ltb}
use Rattle.std.proofs.Math.Path.{ap}
use Rattle.std.proofs.Math.Logic.{⊎_elim}
use mathlib.Core.List.{List, [], ◌∷◌}
use native.Mathlib.Omega.{arith}
use Rattle.std.proofs.Math.ListN.{length, length-append}
use Rattle.std.proofs.lemmas.Bool.{eqb-false}
use Rattle.logic.specs.Choices.{pick}
use Rattle.bytes_at.specs.Walks.{then, ends}
use Rattle.bytes_at.proofs.WalkLaws.{never, then_to, then_inv, ends_at, ended}
use Rattle.format.specs.Lawful.{Walker, Lies, Lawful, NotEmpty, unto}
use Rattle.format.specs.Repeats.{Bytes, All, encs}
use Rattle.format.specs.Laws.OfBytes.{pick_inv, after, lies_at, lies_join, lies_split}
use Rattle.format.specs.Laws.OfRepeats.{SomeLaw, ListLaw, many_bytes}

-- a format whose count must not be 0
module _ {X : Type 0} {W : Walker} {Formed : X → Type 0} {enc : X → List ℕ} (back n : ℕ) (a : Lawful W Formed enc) where
  counted : (s : List ℕ) (end at e : ℕ) → pick (eqb n 0) (Err (at - back)) (W s end at) ≡ Ok e → (0 < n) × (W s end at ≡ Ok e)
  counted s end at e w = ⊎_elim (λ t. never (at - back) e t.1) (λ t. (omega (arith, eqb-false n 0 t.0), t.1))
      (pick_inv (eqb n 0) (Err (at - back)) (W s end at) (Ok e) w)

  pub some_law : SomeLaw back n a
  some_law = record {
    sound = λ s end at x o l h. rw (ne_eqb n 0 (λ z. omega arith)) (a.sound s end at x o.1 l h);
    complete = λ s end at e h m z w.
        let c = counted s end at e w in
        let u = a.complete s end at e h m z c.1 in
        (u.0, ((c.0, u.1.0), u.1.1));
    unique = λ x y p q o r e. a.unique x y p q o.1 r.1 e;
    within = λ s end at e h w. a.within s end at e h (counted s end at e w).1;
    bytes = λ x o. a.bytes x o.1;
  }

-- ---- until the container's end
module _ {X : Type 0} {P : Walker} {Formed : X → Type 0} {enc : X → List ℕ} (a : Lawful P Formed enc) (full : NotEmpty Formed enc) where
  unto_sound : (f : ℕ) (s : List ℕ) (end at : ℕ) (xs : List X) → end ≤ at + f → All Formed xs → Lies (encs enc xs) s at
      → end ≡ at + length (encs enc xs) → unto (P s) f end at ≡ Ok end
  unfolding unto
  unto_sound zero s end at [] d o l h = ends_at end at (omega arith)
  unto_sound zero s end at (x ∷ xs) d o l h = absurd (omega (arith, full x o.0, length-append (enc x) (encs enc xs)))
  unto_sound (suc f) s end at [] d o l h = rw (le-ltb at end (omega arith)) (ends_at end at (omega arith))
  unto_sound (suc f) s end at (x ∷ xs) d o l h =
      let j = length-append (enc x) (encs enc xs) in
      let k = full x o.0 in
      let i = lies_split (enc x) (encs enc xs) s at l in
      let u = a.sound s end at x o.0 i.0 (omega arith) in
      let v = unto_sound f s end (at + length (enc x)) xs (omega arith) o.1 i.1 (omega arith) in
      rw (lt-ltb at end (omega arith)) (then_to _ _ _ _ u v)

  unto_complete : (f : ℕ) (s : List ℕ) (end at : ℕ) → at ≤ end → end ≤ length s → Bytes s → unto (P s) f end at ≡ Ok end
      → (xs : List X) × (All Formed xs × (Lies (encs enc xs) s at × (end ≡ at + length (encs enc xs))))
  unfolding unto
  unto_complete zero s end at h m z w = let t = ended end at end w in ([], (record {}, (refl, omega arith)))
  unto_complete (suc f) s end at h m z w = ⊎_elim
      (λ t.
      let p = then_inv (P s end at) (unto (P s) f end) end t.1 in
      let i = a.within s end at p.0 h p.1.0 in
      let u = a.complete s end at p.0 h m z p.1.0 in
      let v = unto_complete f s end p.0 i.1 m z p.1.1 in (
        u.0 ∷ v.0,
        (
          (u.1.0, v.1.0),
          (
            lies_join (enc u.0) (encs enc v.0) s at u.1.1.0 (lies_at _ s _ _ u.1.1.1 v.1.1.0),
            omega (arith, length-append (enc u.0) (encs enc v.0)),
          ),
        ),
      ))
      (λ t. let g = ended end at end t.1 in ([], (record {}, (refl, omega arith))))
      (pick_inv (ltb at end) (then (P s end at) (unto (P s) f end)) (ends end at) (Ok end) w)

  unto_unique : (xs ys : List X) → All Formed xs → All Formed ys → encs enc xs ≡ encs enc ys → xs ≡ ys
  unto_unique [] [] o r e = refl
  unto_unique [] (y ∷ ys) o r e = absurd (omega (arith, ap length e, full y r.0, length-append (enc y) (encs enc ys)))
  unto_unique (x ∷ xs) [] o r e = absurd (omega (arith, ap length e, full x o.0, length-append (enc x) (encs enc xs)))
  unto_unique (x ∷ xs) (y ∷ ys) o r e =
      let f : x ≡ y = a.unique x y _ _ o.0 r.0 e in
      let g : xs ≡ ys = unto_unique xs ys o.1 r.1 (after enc x y _ _ f e) in
      cc

  unto_whole : (f : ℕ) (s : List ℕ) (end at e : ℕ) → unto (P s) f end at ≡ Ok e → e ≡ end
  unfolding unto
  unto_whole zero s end at e w = (ended end at e w).1
  unto_whole (suc f) s end at e w = ⊎_elim
      (λ t. let p = then_inv (P s end at) (unto (P s) f end) e t.1 in unto_whole f s end p.0 e p.1.1)
      (λ t. (ended end at e t.1).1)
      (pick_inv (ltb at end) (then (P s end at) (unto (P s) f end)) (ends end at) (Ok e) w)

  pub list_law : ListLaw a full
  list_law = record {
    sound = λ s end at xs o l h. unto_sound end s end at xs (omega arith) o l h;
    complete = λ s end. unto_complete end s end;
    unique = unto_unique;
    whole = λ s end. unto_whole end s end;
    bytes = many_bytes a;
  }
