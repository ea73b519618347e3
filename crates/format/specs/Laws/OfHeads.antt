-- Laws of one format after another, and of other values for the same bytes.
use Rattle.std.specs.Prelude.{ℕ, ◌+◌, ◌≡◌, List, ◌++◌, length, Ok}
use Rattle.std.proofs.Common.{sym, ap, ◌∙◌, append_assoc, arith, length-append}
use Rattle.bytes_at.specs.Walks.{then}
use Rattle.bytes_at.proofs.WalkLaws.{then_to, then_inv}
use Rattle.format.specs.Lawful.{Walker, Lawful}
use Rattle.format.specs.Laws.OfBytes.{bytes_append, after, lies_at, lies_join, lies_split}

pub pair_is : {X Y : Type 0} (x y : X × Y) → x.0 ≡ y.0 → x.1 ≡ y.1 → x ≡ y
pair_is x y e f = λ i. (e i, f i)

-- ---- one after the other
module _ {X Y : Type 0} {A B : Walker} {OkA : X → Type 0} {OkB : Y → Type 0} {encA : X → List ℕ} {encB : Y → List ℕ}
    (a : Lawful A OkA encA) (b : Lawful B OkB encB) where
  pub seq_law : Lawful {X = X × Y} (λ s end at. then (A s end at) (B s end))
      (λ x. OkA x.0 × OkB x.1) (λ x. encA x.0 ++ encB x.1)
  seq_law = record {
    sound = λ s end at x o l h.
        let j = length-append (encA x.0) (encB x.1) in
        let i = lies_split (encA x.0) (encB x.1) s at l in
        let u = a.sound s end at x.0 o.0 i.0 (omega arith) in
        let v = b.sound s end (at + length (encA x.0)) x.1 o.1 i.1 (omega arith) in
        then_to _ _ _ _ u (v ∙ ap Ok (omega arith));
    complete = λ s end at e h m z w.
        let p = then_inv _ _ e w in
        let i = a.within s end at p.0 h p.1.0 in
        let u = a.complete s end at p.0 h m z p.1.0 in
        let v = b.complete s end p.0 e i.1 m z p.1.1 in (
          (u.0, v.0),
          (
            (u.1.0, v.1.0),
            (
              lies_join (encA u.0) (encB v.0) s at u.1.1.0 (lies_at _ s _ _ u.1.1.1 v.1.1.0),
              omega (arith, length-append (encA u.0) (encB v.0)),
            ),
          ),
        );
    unique = λ x y p q o r e.
        let e2 : encA x.0 ++ (encB x.1 ++ p) ≡ encA y.0 ++ (encB y.1 ++ q) =
        sym (append_assoc (encA x.0) (encB x.1) p) ∙ e ∙ append_assoc (encA y.0) (encB y.1) q in
        let f = a.unique x.0 y.0 _ _ o.0 r.0 e2 in
        pair_is x y f (b.unique x.1 y.1 p q o.1 r.1 (after encA x.0 y.0 _ _ f e2));
    within = λ s end at e h w.
        let p = then_inv _ _ e w in
        let i = a.within s end at p.0 h p.1.0 in
        let j = b.within s end p.0 e i.1 p.1.1 in
        (omega arith, j.1);
    bytes = λ x o. bytes_append (encA x.0) (encB x.1) (a.bytes x.0 o.0) (b.bytes x.1 o.1);
  }

-- ---- the same bytes, and other values: `to` gives the value that a new one stands for
module _ {X Y : Type 0} {W : Walker} {Formed : X → Type 0} {enc : X → List ℕ} {OkY : Y → Type 0} (a : Lawful W Formed enc) (to : Y → X)
    (good : (y : Y) → OkY y → Formed (to y)) (onto : (x : X) → Formed x → (y : Y) × (OkY y × (to y ≡ x)))
    (inj : (y z : Y) → OkY y → OkY z → to y ≡ to z → y ≡ z) where
  pub via_law : Lawful {X = Y} W OkY (λ y. enc (to y))
  via_law = record {
    sound = λ s end at y o l h. a.sound s end at (to y) (good y o) l h;
    complete = λ s end at e h m z w.
        let u = a.complete s end at e h m z w in
        let v = onto u.0 u.1.0 in
        (v.0, (v.1.0, rw v.1.1 u.1.1));
    unique = λ y z p q o r e. inj y z o r (a.unique (to y) (to z) p q (good y o) (good z r) e);
    within = a.within;
    bytes = λ y o. a.bytes (to y) (good y o);
  }
