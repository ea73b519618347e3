-- `text_of` meets its contract: each arm is one kind of text.
use native.Mathlib.Omega.{arith}
use mathlib.Core.Path.{refl}
use Rattle.logic.proofs.ChoiceLaws.{eq_yes, eq_no}
use Rattle.telling.specs.Texts.{text_of}
use Rattle.telling.proofs.texts.text_of.Goals as goal

pub returns-in-1 : goal.returns-in-1
unfolding text_of
returns-in-1 c = eq_yes _ _ _ _ c.in-1.is refl

pub returns-in-2 : goal.returns-in-2
unfolding text_of
returns-in-2 c = eq_no _ _ _ _ (λ e. omega arith) (eq_yes _ _ _ _ c.in-2.is refl)

pub returns-in-3 : goal.returns-in-3
unfolding text_of
returns-in-3 c = eq_no _ _ _ _ (λ e. omega arith) (eq_no _ _ _ _ (λ e. omega arith) (eq_yes _ _ _ _ c.in-3.is refl))

pub returns-in-4 : goal.returns-in-4
unfolding text_of
returns-in-4 c = eq_no _ _ _ _ (λ e. omega arith) (eq_no _ _ _ _ (λ e. omega arith) (eq_no _ _ _ _ (λ e. omega arith) (eq_yes _ _ _ _ c.in-4.is refl)))

pub returns-in-5 : goal.returns-in-5
unfolding text_of
returns-in-5 c = eq_no _ _ _ _ (λ e. omega arith) (eq_no _ _ _ _ (λ e. omega arith) (eq_no _ _ _ _ (λ e. omega arith) (eq_no _ _ _ _ (λ e. omega arith) (eq_yes _ _ _ _ c.in-5.is refl))))

pub returns-in-6 : goal.returns-in-6
unfolding text_of
returns-in-6 c = eq_no _ _ _ _ (λ e. omega arith) (eq_no _ _ _ _ (λ e. omega arith) (eq_no _ _ _ _ (λ e. omega arith) (eq_no _ _ _ _ (λ e. omega arith) (eq_no _ _ _ _ (λ e. omega arith) (eq_yes _ _ _ _ c.in-6.is refl)))))

pub returns-in-7 : goal.returns-in-7
unfolding text_of
returns-in-7 c = eq_no _ _ _ _ (λ e. omega arith) (eq_no _ _ _ _ (λ e. omega arith) (eq_no _ _ _ _ (λ e. omega arith) (eq_no _ _ _ _ (λ e. omega arith) (eq_no _ _ _ _ (λ e. omega arith) (eq_no _ _ _ _ (λ e. omega arith) (eq_yes _ _ _ _ c.in-7.is refl))))))

pub returns-in_default : goal.returns-in_default
unfolding text_of
returns-in_default c = let r = c.in_default.in_default-own.rest in
    eq_no _ _ _ _ r.0.0.0.0.0.0.1 (eq_no _ _ _ _ r.0.0.0.0.0.1 (eq_no _ _ _ _ r.0.0.0.0.1 (eq_no _ _ _ _ r.0.0.0.1 (eq_no _ _ _ _ r.0.0.1 (eq_no _ _ _ _ r.0.1 (eq_no _ _ _ _ r.1 refl))))))
