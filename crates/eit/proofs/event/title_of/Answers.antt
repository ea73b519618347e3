-- `title_of` meets its contract.
use mathlib.Core.Path.{refl}
use native.Mathlib.Omega.{arith}
use Rattle.logic.proofs.ChoiceLaws.{eq_yes, eq_no}
use Rattle.eit.specs.Titles.{title_of}
use Rattle.eit.proofs.event.title_of.Goals as goal

pub returns-in-0 : goal.returns-in-0
unfolding title_of
returns-in-0 c = eq_yes _ _ _ _ c.in-0.is refl

pub returns-in-1 : goal.returns-in-1
unfolding title_of
returns-in-1 c = eq_no _ _ _ _ (λ e. omega arith) (eq_yes _ _ _ _ c.in-1.is (eq_yes _ _ _ _ (omega arith) refl))

pub returns-in_default : goal.returns-in_default
unfolding title_of
returns-in_default c = eq_no _ _ _ _ (λ e. omega arith) (eq_yes _ _ _ _ c.in-1.is (eq_no _ _ _ _ (λ e. omega (arith, e)) refl))

pub returns-in_default-2 : goal.returns-in_default-2
unfolding title_of
returns-in_default-2 c = let k = c.in_default in eq_no _ _ _ _ (λ e. omega (arith, k)) (eq_no _ _ _ _ (λ e. omega (arith, k)) refl)
