-- Laws of the walks' combinators: nobody above unfolds what has a law here.
use Prim.Native.Nat.{ℕ, zero, suc, ◌+◌, ◌-◌, ◌*◌, ◌/◌, ◌≤◌, ◌<◌}
use mathlib.Core.Path.{◌≡◌, refl, sym, ap, ◌∙◌, subst}
use mathlib.Core.List.{List, [], ◌∷◌}
use mathlib.Core.Bool.{Bool, true, false}
use native.Mathlib.Numerals.{sub-one}
use native.Mathlib.Omega.{arith}
use lib.Dec.{leb, eqb}
use borrow.Author.Tests.{leb-true, eqb-true, le-leb, lt-leb, eq-eqb}
use Rattle.std.specs.Prelude.{Ok, Err, IsErrAnd}
use Rattle.std.proofs.lemmas.Result.{err_from_is_err_and}
use Rattle.logic.specs.Choices.{pick}
use Rattle.refusal.specs.Outcomes.{refused, resulted}
use Rattle.refusal.proofs.OutcomeLaws.{not_both}
use Rattle.bytes_at.specs.Walks.{skip_to, bits_to, then, many, ends, standing, Walk}
use Rattle.bytes_at.specs.Inner.{Stands}

-- ---- walks that stand, and walks that do not
pub to_is : (a b : ℕ) → ◌≡◌ {A = Walk} (Ok a) (Ok b) → b ≡ a
to_is a b e = cc

pub never : {A : Type 0} (x b : ℕ) → ◌≡◌ {A = Walk} (Err x) (Ok b) → A
never x b e = let z : ◌≡◌ {A = ℕ} 0 1 = cc in absurd (omega arith)

-- what is answered for a walk
pub standing_to : (w : Walk) (b : ℕ) → w ≡ Ok b → resulted b ≡ standing w
unfolding standing
standing_to w b e = rw e

pub standing_bad : (w : Walk) (x : ℕ) → w ≡ Err x → refused 9 ≡ standing w
unfolding standing
standing_bad w x e = rw e

pub standing_is : (w : Walk) (a : ℕ) → standing w ≡ resulted a → w ≡ Ok a
unfolding standing
standing_is (Ok b) a e = let q : b ≡ a = cc in ap Ok q
standing_is (Err x) a e = not_both 9 a e

-- what a call's result was found to be, its meaning is
pub goes : {A : Type 0} {w v x : A} → w ≡ v → w ≡ x → v ≡ x
goes e f = sym e ∙ f

-- what a `?` hands on is what the step answered
pub as_it_was : {v r : Walk} {x : ℕ} → IsErrAnd r (λ y. y ≡ x) → v ≡ Err x → r ≡ v
as_it_was {v} {r} {x} m e = let q = err_from_is_err_and r m in q.1 ∙ (ap Err q.2 ∙ sym e)

-- ---- then
-- r is the meaning of a step and what follows, where the step failed, and where it did not
pub seq_bad : (k : ℕ → Walk) {v w : Walk} {x : ℕ} → v ≡ w → v ≡ Err x → v ≡ then w k
unfolding then
seq_bad k e f = rw (← e, f)

-- the same at the exit of a `?`
pub exit : (k : ℕ → Walk) {v w r : Walk} {x : ℕ} → IsErrAnd r (λ y. y ≡ x) → v ≡ w → v ≡ Err x → r ≡ then w k
exit k m e f = as_it_was m f ∙ seq_bad k e f

pub seq_to : (k : ℕ → Walk) {v w r : Walk} {b : ℕ} → v ≡ w → v ≡ Ok b → r ≡ k b → r ≡ then w k
unfolding then
seq_to k e f g = rw (← e, f) g

pub then_to : (w : Walk) (k : ℕ → Walk) (b : ℕ) (r : Walk) → w ≡ Ok b → k b ≡ r → then w k ≡ r
unfolding then
then_to w k b r e f = rw e f

pub then_inv : (w : Walk) (k : ℕ → Walk) (e : ℕ) → then w k ≡ Ok e → (b : ℕ) × ((w ≡ Ok b) × (k b ≡ Ok e))
unfolding then
then_inv (Ok b) k e h = (b, (refl, h))
then_inv (Err x) k e h = never x e h

-- ---- skip_to
picked : (t : Bool) (a x b : ℕ) → pick t (Ok a) (Err x) ≡ Ok b → (t ≡ true) × (b ≡ a)
picked true a x b e = (refl, to_is a b e)
picked false a x b e = never x b e

-- a step that succeeds stays within its container
pub skipped : (back at n end b : ℕ) → skip_to back at n end ≡ Ok b → (b ≡ at + n) × (b ≤ end)
unfolding skip_to
skipped back at n end b e =
    let h = picked (leb (at + n) end) (at + n) (at - back) b e in
    let l = leb-true (at + n) end h.0 in (h.1, omega (arith, l, h.1))

pub skip_fits : (back at n end : ℕ) → at + n ≤ end → Ok (at + n) ≡ skip_to back at n end
unfolding skip_to
skip_fits back at n end h = rw (le-leb (at + n) end h)

pub skip_past : (back at n end x : ℕ) → end < at + n → x ≡ at - back → Err x ≡ skip_to back at n end
unfolding skip_to
skip_past back at n end x h e = rw (lt-leb (at + n) end h, e)

-- ---- bits_to and fields_to
module _ (n : ℕ) (ns : List ℕ) (p end : ℕ) where
  pub bits_past : (x : ℕ) → 8 * end < p + n → x ≡ p / 8 → Err x ≡ bits_to (n ∷ ns) p end
  unfolding bits_to
  bits_past x h e = rw (lt-leb (p + n) (8 * end) h, e)

  pub bits_on : {r : Walk} → p + n ≤ 8 * end → r ≡ bits_to ns (p + n) end → r ≡ bits_to (n ∷ ns) p end
  unfolding bits_to
  bits_on h e = rw (le-leb (p + n) (8 * end) h) e

pub bits_done : (p end x : ℕ) → x ≡ p / 8 → Ok x ≡ bits_to [] p end
unfolding bits_to
bits_done p end x e = rw e

-- ---- ends
pub ends_at : (end at : ℕ) → at ≡ end → ends end at ≡ Ok end
unfolding ends
ends_at end at h = rw (eq-eqb at end h) (rw h)

pub ended : (end at e : ℕ) → ends end at ≡ Ok e → (at ≡ end) × (e ≡ end)
unfolding ends
ended end at e h =
    let g = picked (eqb at end) at at e h in
    let l = eqb-true at end g.0 in (l, g.1 ∙ l)

-- ---- many
module _ (p : ℕ → Walk) where
  pub many_go : (n at b : ℕ) → 0 < n → p at ≡ Ok b → many p (n - 1) b ≡ many p n at
  unfolding many then
  many_go zero at b h e = absurd (omega arith)
  many_go (suc n) at b h e = rw (e, sub-one) refl

  pub many_bad : (n at x : ℕ) (w : Walk) → 0 < n → w ≡ p at → w ≡ Err x → w ≡ many p n at
  unfolding many then
  many_bad zero at x w h e f = absurd (omega arith)
  many_bad (suc n) at x w h e f = rw (← e, f) refl

  pub many_none : (n at : ℕ) → n ≡ 0 → Ok at ≡ many p n at
  unfolding many
  many_none n at e = rw e

  -- the first, and the others
  pub many_inv : (n at e : ℕ) → 0 < n → many p n at ≡ Ok e → (b : ℕ) × ((p at ≡ Ok b) × (many p (n - 1) b ≡ Ok e))
  unfolding many
  many_inv zero at e h w = absurd (omega arith)
  many_inv (suc n) at e h w = rw sub-one (then_inv (p at) (many p n) e w)

  -- on the way past n the place of each is reached
  pub reached : (i n at e : ℕ) → i ≤ n → many p n at ≡ Ok e → Stands (many p i at)
  unfolding many
  reached zero n at e h w = (at, refl)
  reached (suc i) zero at e h w = absurd (omega arith)
  reached (suc i) (suc n) at e h w =
      let q = then_inv (p at) (many p n) e w in
      let r = reached i n q.0 e (omega arith) q.1.1 in
      (r.0, then_to (p at) (many p i) q.0 (Ok r.0) q.1.0 r.1)

  -- and the one that begins there is passed
  pub stands_at : (i n at a e : ℕ) → i < n → many p n at ≡ Ok e → many p i at ≡ Ok a → Stands (p a)
  unfolding many
  stands_at zero zero at a e h w v = absurd (omega arith)
  stands_at zero (suc n) at a e h w v =
      let q = then_inv (p at) (many p n) e w in
      (q.0, subst (λ (x : ℕ). p x ≡ Ok q.0) (sym (to_is at a v)) q.1.0)
  stands_at (suc i) zero at a e h w v = absurd (omega arith)
  stands_at (suc i) (suc n) at a e h w v =
      let q = then_inv (p at) (many p n) e w in
      let r = then_inv (p at) (many p i) a v in
      let b : q.0 ≡ r.0 = to_is r.0 q.0 (sym r.1.0 ∙ q.1.0) in
      stands_at i n r.0 a e (omega arith) (subst (λ (x : ℕ). many p n x ≡ Ok e) b q.1.1) r.1.1

  -- where each ends before a bound, so do they all
  pub many_in : (most : ℕ) → ((at b : ℕ) → p at ≡ Ok b → b ≤ most) → (n at b : ℕ) → at ≤ most → many p n at ≡ Ok b → b ≤ most
  unfolding many
  many_in most h zero at b k w = let t = to_is at b w in omega arith
  many_in most h (suc n) at b k w =
      let q = then_inv (p at) (many p n) b w in
      many_in most h n q.0 b (h at q.0 q.1.0) q.1.1
