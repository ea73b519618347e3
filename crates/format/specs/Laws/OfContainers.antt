-- Laws of formats that take their whole container, and of containers whose length is told.
use Rattle.std.specs.Prelude.{ℕ, ◌+◌, ◌-◌, ◌≤◌, ◌≡◌, refl, ◌⊎◌, List, ◌++◌, Bool, true, false, length, take, drop, eqb, Option, Ok}
use Rattle.std.proofs.Common.{sym, ap, ◌∙◌, inl, inr, ⊎_elim, arith, length-append}
use Rattle.logic.specs.Choices.{pick}
use Rattle.bytes_at.specs.Walks.{skip_to, then, ends}
use Rattle.bytes_at.proofs.WalkLaws.{to_is, then_to, then_inv, skipped, skip_fits}
use Rattle.format.specs.Lawful.{Walker, Lies, Lawful, Fills, NotEmpty}
use Rattle.format.specs.Repeats.{Bytes, OkOpt, enc_opt, OkSum, enc_sum}
use Rattle.format.specs.Laws.OfBytes.{pick_inv, same_front, after, bytes_append, lies_at, lies_join, lies_split, part_bytes, part_length, part_lies}

-- ---- n bytes that a format fills
module _ {X : Type 0} {F : Walker} {Formed : X → Type 0} {enc : X → List ℕ} (back n : ℕ) (f : Fills F Formed enc) where
  pub filled_law : Lawful {X = X} (λ s end at. then (skip_to back at n end) (λ e. F s e at)) (λ x. (length (enc x) ≡ n) × Formed x) enc
  filled_law = record {
    sound = λ s end at x o l h.
        then_to _ _ (at + n) _ (sym (skip_fits back at n end (omega arith)))
        (f.sound s (at + n) at x o.1 l (omega arith) ∙ ap Ok (omega arith));
    complete = λ s end at e h m z w.
        let p = then_inv _ _ e w in
        let t = skipped back at n end p.0 p.1.0 in
        let q = f.whole s p.0 at e p.1.1 in
        let u = f.complete s p.0 at (omega arith) (omega arith) z (p.1.1 ∙ ap Ok q) in
        (u.0, ((omega arith, u.1.0), (u.1.1.0, omega arith)));
    unique = λ x y p q o r e. f.unique x y o.1 r.1 (same_front (enc x) (enc y) p q (o.0 ∙ sym r.0) e).0;
    within = λ s end at e h w.
        let p = then_inv _ _ e w in
        let t = skipped back at n end p.0 p.1.0 in
        let q = f.whole s p.0 at e p.1.1 in
        (omega arith, omega arith);
    bytes = λ x o. f.bytes x o.1;
  }

-- ---- a format that tells where it ends, and nothing after it: what is to hold (proofs/ContainerLaws.antt)
module _ {X : Type 0} {A : Walker} {Formed : X → Type 0} {enc : X → List ℕ} (a : Lawful A Formed enc) where
  abbrev pub ExactWhole : Type 0
  ExactWhole = (s : List ℕ) (end at e : ℕ) → then (A s end at) (ends end) ≡ Ok e → (A s end at ≡ Ok end) × (e ≡ end)

  abbrev pub ExactLaw : Type 0
  ExactLaw = Fills {X = X} (λ s end at. then (A s end at) (ends end)) Formed enc

-- ---- a format that tells where it ends, and one that takes the rest of the container
module _ {X Y : Type 0} {A B : Walker} {OkA : X → Type 0} {OkB : Y → Type 0} {encA : X → List ℕ} {encB : Y → List ℕ}
    (a : Lawful A OkA encA) (b : Fills B OkB encB) where
  pub before_law : Fills {X = X × Y} (λ s end at. then (A s end at) (B s end))
      (λ x. OkA x.0 × OkB x.1) (λ x. encA x.0 ++ encB x.1)
  before_law = record {
    sound = λ s end at x o l h.
        let j = length-append (encA x.0) (encB x.1) in
        let i = lies_split (encA x.0) (encB x.1) s at l in
        let u = a.sound s end at x.0 o.0 i.0 (omega arith) in
        then_to _ _ _ _ u (b.sound s end (at + length (encA x.0)) x.1 o.1 i.1 (omega arith));
    complete = λ s end at h m z w.
        let p = then_inv _ _ end w in
        let i = a.within s end at p.0 h p.1.0 in
        let u = a.complete s end at p.0 h m z p.1.0 in
        let v = b.complete s end p.0 i.1 m z p.1.1 in (
          (u.0, v.0),
          (
            (u.1.0, v.1.0),
            (
              lies_join (encA u.0) (encB v.0) s at u.1.1.0 (lies_at _ s _ _ u.1.1.1 v.1.1.0),
              omega (arith, length-append (encA u.0) (encB v.0)),
            ),
          ),
        );
    unique = λ x y o r e.
        let f = a.unique x.0 y.0 _ _ o.0 r.0 e in
        let g = b.unique x.1 y.1 o.1 r.1 (after encA x.0 y.0 _ _ f e) in
        λ i. (f i, g i);
    whole = λ s end at e w. let p = then_inv _ _ e w in b.whole s end p.0 e p.1.1;
    bytes = λ x o. bytes_append (encA x.0) (encB x.1) (a.bytes x.0 o.0) (b.bytes x.1 o.1);
  }

-- ---- the same bytes and walk, and other values that stand for the old ones one to one
module _ {X Y : Type 0} {F : Walker} {Formed : X → Type 0} {enc : X → List ℕ} (f : Fills F Formed enc) (to : Y → X) (from : X → Y)
    (a : (x : X) → to (from x) ≡ x) (b : (y : Y) → from (to y) ≡ y) where
  pub under_law : Fills {X = Y} F (λ y. Formed (to y)) (λ y. enc (to y))
  under_law = record {
    sound = λ s end at y o l h. f.sound s end at (to y) o l h;
    complete = λ s end at h m z w.
        let u = f.complete s end at h m z w in
        (from u.0, (rw (a u.0) u.1.0, rw (a u.0) u.1.1));
    unique = λ y z o r e. sym (b y) ∙ ap from (f.unique (to y) (to z) o r e) ∙ b z;
    whole = f.whole;
    bytes = λ y o. f.bytes (to y) o;
  }

-- ---- whatever bytes there are
pub any_law : Fills {X = List ℕ} (λ s end at. Ok end) Bytes (λ x. x)
any_law = record {
  sound = λ s end at x o l h. refl;
  complete = λ s end at h m z w.
      let l = part_length s (end - at) at (omega arith) in
      (take (end - at) (drop at s), (part_bytes s (end - at) at z, (part_lies s (end - at) at (omega arith), omega arith)));
  unique = λ x y o r e. e;
  whole = λ s end at e w. to_is end e w;
  bytes = λ x o. o;
}

-- ---- nothing, or a format none of whose values is empty: what is to hold (proofs/ContainerLaws.antt)
module _ {X : Type 0} {F : Walker} {Formed : X → Type 0} {enc : X → List ℕ} (f : Fills F Formed enc) (full : NotEmpty Formed enc) where
  abbrev pub OptLaw : Type 0
  OptLaw = Fills {X = Option X} (λ s end at. pick (eqb at end) (Ok at) (F s end at)) (OkOpt Formed) (enc_opt enc)

-- ---- one format or another, by a test on what is told
differ : {A : Type 0} {t : Bool} → t ≡ true → t ≡ false → A
differ e f = let z : ◌≡◌ {A = ℕ} 0 1 = cc in absurd (omega arith)

module _ {X Y : Type 0} {A B : Walker} {OkA : X → Type 0} {OkB : Y → Type 0} {encA : X → List ℕ} {encB : Y → List ℕ}
    (t : Bool) (a : Fills A OkA encA) (b : Fills B OkB encB) where
  sum_sound : (s : List ℕ) (end at : ℕ) (x : X ⊎ Y) → OkSum t OkA OkB x → Lies (enc_sum encA encB x) s at
      → end ≡ at + length (enc_sum encA encB x) → pick t (A s end at) (B s end at) ≡ Ok end
  sum_sound s end at (inl x) o l h = rw o.0 (a.sound s end at x o.1 l h)
  sum_sound s end at (inr x) o l h = rw o.0 (b.sound s end at x o.1 l h)

  sum_complete : (s : List ℕ) (end at : ℕ) → at ≤ end → end ≤ length s → Bytes s → pick t (A s end at) (B s end at) ≡ Ok end
      → (x : X ⊎ Y) × (OkSum t OkA OkB x × (Lies (enc_sum encA encB x) s at × (end ≡ at + length (enc_sum encA encB x))))
  sum_complete s end at h m z w = ⊎_elim
      (λ g. let u = a.complete s end at h m z g.1 in (inl u.0, ((g.0, u.1.0), u.1.1)))
      (λ g. let u = b.complete s end at h m z g.1 in (inr u.0, ((g.0, u.1.0), u.1.1)))
      (pick_inv t (A s end at) (B s end at) (Ok end) w)

  sum_unique : (x y : X ⊎ Y) → OkSum t OkA OkB x → OkSum t OkA OkB y → enc_sum encA encB x ≡ enc_sum encA encB y → x ≡ y
  sum_unique (inl x) (inl y) o r e = ap inl (a.unique x y o.1 r.1 e)
  sum_unique (inl x) (inr y) o r e = differ o.0 r.0
  sum_unique (inr x) (inl y) o r e = differ r.0 o.0
  sum_unique (inr x) (inr y) o r e = ap inr (b.unique x y o.1 r.1 e)

  sum_whole : (s : List ℕ) (end at e : ℕ) → pick t (A s end at) (B s end at) ≡ Ok e → e ≡ end
  sum_whole s end at e w = ⊎_elim (λ g. a.whole s end at e g.1) (λ g. b.whole s end at e g.1)
      (pick_inv t (A s end at) (B s end at) (Ok e) w)

  sum_bytes : (x : X ⊎ Y) → OkSum t OkA OkB x → Bytes (enc_sum encA encB x)
  sum_bytes (inl x) o = a.bytes x o.1
  sum_bytes (inr x) o = b.bytes x o.1

  pub choice_law : Fills {X = X ⊎ Y} (λ s end at. pick t (A s end at) (B s end at)) (OkSum t OkA OkB) (enc_sum encA encB)
  choice_law = record { sound = sum_sound; complete = sum_complete; unique = sum_unique; whole = sum_whole; bytes = sum_bytes }
