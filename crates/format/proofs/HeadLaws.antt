-- The law of a head and what it tells of.
use Rattle.std.specs.Prelude.{ℕ, ◌+◌, ◌*◌, ◌≡◌, List, ◌++◌, length, take, drop, Ok}
use Rattle.std.proofs.Common.{sym, ap, ◌∙◌, append_assoc, arith, length-append}
use Rattle.bytes_at.specs.Walks.{fields_to, then}
use Rattle.bytes_at.proofs.WalkLaws.{then_to, then_inv}
use Rattle.format.specs.Lawful.{Walker, Lies, Lawful, total}
use Rattle.format.specs.Repeats.{Bytes}
use Rattle.format.specs.Laws.OfBytes.{bytes_append, same_front, lies_at, lies_join, lies_split, part_bytes, part_length, part_lies}
use Rattle.format.specs.Laws.OfHeads.{pair_is}
use Rattle.format.proofs.StepLaws.{fields_fit, fields_took}

-- ---- a head of k bytes, and a body of which the head tells c; the walk reads c from behind the head
module _ {C X : Type 0} {B : C → Walker} {Formed : C → X → Type 0} {enc : X → List ℕ} (ns : List ℕ) (k : ℕ) (whole : total ns ≡ 8 * k)
    (c : List ℕ → ℕ → C) (same : (s : List ℕ) (at : ℕ) (h : List ℕ) → length h ≡ k → Lies h s at → c s (at + k) ≡ c h k)
    (body : (n : C) → Lawful (B n) (Formed n) enc) where
  pub head_law : Lawful {X = List ℕ × X} (λ s end at. then (fields_to ns at end) (λ b. B (c s b) s end b))
      (λ x. ((length x.0 ≡ k) × Bytes x.0) × Formed (c x.0 k) x.1) (λ x. x.0 ++ enc x.1)
  head_law = record {
    sound = λ s end at x o l h.
        let j = length-append x.0 (enc x.1) in
        let i = lies_split x.0 (enc x.1) s at l in
        let r = same s at x.0 o.0.0 i.0 in
        let i1 = lies_at (enc x.1) s _ _ (ap (at +◌) o.0.0) i.1 in
        let b = (body (c x.0 k)).sound s end (at + k) x.1 o.1 i1 (omega arith) in
        then_to _ _ (at + k) _ (fields_fit ns k whole at end (omega arith)) (rw r (b ∙ ap Ok (omega arith)));
    complete = λ s end at e h m z w.
        let p = then_inv _ _ e w in
        let t = fields_took ns k whole at end p.0 h p.1.0 in
        let hl = part_length s k at (omega arith) in
        let li = part_lies s k at (omega arith) in
        let r = same s at (take k (drop at s)) hl li in
        let w2 : B (c (take k (drop at s)) k) s end (at + k) ≡ Ok e = rw (t.0, r) at p.1.1 in
        let b = (body (c (take k (drop at s)) k)).complete s end (at + k) e (omega arith) m z w2 in (
          (take k (drop at s), b.0),
          (
            ((hl, part_bytes s k at z), b.1.0),
            (
              lies_join (take k (drop at s)) (enc b.0) s at li (lies_at (enc b.0) s _ _ (ap (at +◌) (sym hl)) b.1.1.0),
              omega (arith, length-append (take k (drop at s)) (enc b.0)),
            ),
          ),
        );
    unique = λ x y p q o r e.
        let e2 : x.0 ++ (enc x.1 ++ p) ≡ y.0 ++ (enc y.1 ++ q) =
        sym (append_assoc x.0 (enc x.1) p) ∙ e ∙ append_assoc y.0 (enc y.1) q in
        let f = same_front x.0 y.0 _ _ (o.0.0 ∙ sym r.0.0) e2 in
        let o2 : Formed (c y.0 k) x.1 = rw f.0 at o.1 in
        pair_is x y f.0 ((body (c y.0 k)).unique x.1 y.1 p q o2 r.1 f.1);
    within = λ s end at e h w.
        let p = then_inv _ _ e w in
        let t = fields_took ns k whole at end p.0 h p.1.0 in
        let i = (body (c s p.0)).within s end p.0 e t.1 p.1.1 in
        (omega arith, i.1);
    bytes = λ x o. bytes_append x.0 (enc x.1) o.0.1 ((body (c x.0 k)).bytes x.1 o.1);
  }
