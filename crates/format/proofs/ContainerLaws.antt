-- Laws of formats that take their whole container: nothing after a format, and nothing or a format.
use Rattle.std.specs.Prelude.{ℕ, ◌+◌, ◌≤◌, ◌≡◌, refl, List, [], ◌++◌, length, eqb, Option, None, Some, Ok}
use Rattle.std.proofs.Common.{ap, ◌∙◌, ⊎_elim, arith, eqb-true, eq-eqb, ne_eqb}
use Rattle.logic.specs.Choices.{pick}
use Rattle.bytes_at.proofs.WalkLaws.{to_is, then_to, then_inv, ends_at, ended}
use Rattle.format.specs.Lawful.{Walker, Lies, Lawful, Fills, NotEmpty}
use Rattle.format.specs.Repeats.{Bytes, OkOpt, enc_opt}
use Rattle.format.specs.Laws.OfBytes.{pick_inv}
use Rattle.format.specs.Laws.OfContainers.{ExactWhole, ExactLaw, OptLaw}

-- ---- a format that tells where it ends, and nothing after it
module _ {X : Type 0} {A : Walker} {Formed : X → Type 0} {enc : X → List ℕ} (a : Lawful A Formed enc) where
  exact_whole : ExactWhole a
  exact_whole s end at e w =
      let p = then_inv _ _ e w in
      let t = ended end p.0 e p.1.1 in
      (p.1.0 ∙ ap Ok t.0, t.1)

  pub exact_law : ExactLaw a
  exact_law = record {
    sound = λ s end at x o l h.
        then_to _ _ (at + length (enc x)) _ (a.sound s end at x o l (omega arith)) (ends_at end _ (omega arith));
    complete = λ s end at h m z w. a.complete s end at end h m z (exact_whole s end at end w).0;
    unique = λ x y o r e. a.unique x y [] [] o r (ap (λ l. l ++ []) e);
    whole = λ s end at e w. (exact_whole s end at e w).1;
    bytes = a.bytes;
  }

-- ---- nothing, or a format none of whose values is empty
module _ {X : Type 0} {F : Walker} {Formed : X → Type 0} {enc : X → List ℕ} (f : Fills F Formed enc) (full : NotEmpty Formed enc) where
  opt_sound : (s : List ℕ) (end at : ℕ) (x : Option X) → OkOpt Formed x → Lies (enc_opt enc x) s at → end ≡ at + length (enc_opt enc x)
      → pick (eqb at end) (Ok at) (F s end at) ≡ Ok end
  opt_sound s end at None o l h = rw (eq-eqb at end (omega arith)) (ap Ok (omega arith))
  opt_sound s end at (Some x) o l h = rw (ne_eqb at end (λ z. omega (arith, full x o))) (f.sound s end at x o l h)

  opt_complete : (s : List ℕ) (end at : ℕ) → at ≤ end → end ≤ length s → Bytes s → pick (eqb at end) (Ok at) (F s end at) ≡ Ok end
      → (x : Option X) × (OkOpt Formed x × (Lies (enc_opt enc x) s at × (end ≡ at + length (enc_opt enc x))))
  opt_complete s end at h m z w = ⊎_elim
      (λ t. let v = eqb-true at end t.0 in (None, (record {}, (refl, omega arith))))
      (λ t. let u = f.complete s end at h m z t.1 in (Some u.0, u.1))
      (pick_inv (eqb at end) (Ok at) (F s end at) (Ok end) w)

  opt_unique : (x y : Option X) → OkOpt Formed x → OkOpt Formed y → enc_opt enc x ≡ enc_opt enc y → x ≡ y
  opt_unique None None o r e = refl
  opt_unique None (Some y) o r e = absurd (omega (arith, ap length e, full y r))
  opt_unique (Some x) None o r e = absurd (omega (arith, ap length e, full x o))
  opt_unique (Some x) (Some y) o r e = ap Some (f.unique x y o r e)

  opt_whole : (s : List ℕ) (end at e : ℕ) → pick (eqb at end) (Ok at) (F s end at) ≡ Ok e → e ≡ end
  opt_whole s end at e w = ⊎_elim
      (λ t. to_is at e t.1 ∙ eqb-true at end t.0)
      (λ t. f.whole s end at e t.1)
      (pick_inv (eqb at end) (Ok at) (F s end at) (Ok e) w)

  opt_bytes : (x : Option X) → OkOpt Formed x → Bytes (enc_opt enc x)
  opt_bytes None o = λ i. omega arith
  opt_bytes (Some x) o = f.bytes x o

  pub opt_law : OptLaw f full
  opt_law = record { sound = opt_sound; complete = opt_complete; unique = opt_unique; whole = opt_whole; bytes = opt_bytes }
