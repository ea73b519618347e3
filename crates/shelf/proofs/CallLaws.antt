-- How a chain of refusals goes, test by test, and the cases of a status.
use Prim.Native.Nat.{◌+◌, ℕ}
use mathlib.Core.Path.{◌∙◌, ◌≡◌, ap, ap₂, refl, sym}
use mathlib.Core.Bool.{Bool, false, true}
use Rattle.logic.proofs.ChoiceLaws.{eq_no, eq_yes}
use Rattle.logic.specs.Choices.{pick}
use Rattle.refusal.specs.Outcomes.{resulted}
use Rattle.refusal.proofs.OutcomeLaws.{not_both}
use Rattle.shelf_state.specs.declared.records.Edition.{Edition}
use Rattle.shelf_state.specs.declared.records.Shelf.{Shelf}
use Rattle.shelf.specs.Answers.{After}
use Rattle.shelf.specs.Views.{complete, held, unheard, held_or_complete, status_of}
use Rattle.shelf.specs.Calls.{or_refuse_with, refused_with}

-- ---- a test and what follows it
module _ {A : Type 0} (n : ℕ) (s : Shelf) (t : Bool) (rest : After A) {r : After A} where
  pub go_on : t ≡ true → r ≡ rest → r ≡ or_refuse_with n s t rest
  unfolding or_refuse_with
  go_on e f = rw e f

  pub stop : t ≡ false → r ≡ refused_with n s → r ≡ or_refuse_with n s t rest
  unfolding or_refuse_with
  stop e f = rw e f

-- a chain that ends in a result has passed each test
pub passed : {A : Type 0} (n : ℕ) (s : Shelf) (t : Bool) (rest : After A) (x : A) → (or_refuse_with n s t rest).outcome ≡ resulted x → (t ≡ true) × (rest.outcome ≡ resulted x)
unfolding or_refuse_with
passed n s true rest x e = (refl, e)
passed n s false rest x e = not_both n x e

module _ (e : Edition) where
  pub status_unheard : (c : ℕ) → e.heard ≡ false → unheard ≡ status_of e c
  unfolding status_of
  status_unheard c h = rw h

  module _ (c n d : ℕ) (h : e.heard ≡ true) (f : c ≡ d) (g : n ≡ e.last + 1) where
    counted : held_or_complete c n ≡ status_of e d
    unfolding status_of
    counted = ap₂ held_or_complete f g ∙ sym (ap (λ (b : Bool). pick b (held_or_complete d (e.last + 1)) unheard) h)

    pub status_complete : c ≡ n → complete n ≡ status_of e d
    unfolding held_or_complete
    status_complete q = eq_yes c n (complete n) (held c n) q refl ∙ counted

    pub status_part : (c ≡ n → ⊥) → held c n ≡ status_of e d
    unfolding held_or_complete
    status_part q = eq_no c n (complete n) (held c n) q refl ∙ counted
