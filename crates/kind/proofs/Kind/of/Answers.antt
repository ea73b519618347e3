-- `Kind::of` meets its contract: each arm is one row of the table.
use native.Mathlib.Omega.{arith}
use mathlib.Core.Path.{refl}
use Rattle.logic.proofs.ChoiceLaws.{eq_yes, eq_no}
use Rattle.kind.specs.Kinds.{kind_of}
use Rattle.kind.proofs.Kind.of.Goals as goal

pub returns-in-199 : goal.returns-in-199
unfolding kind_of
returns-in-199 c = eq_yes _ _ _ _ c.in-199.is refl

pub returns-in-200 : goal.returns-in-200
unfolding kind_of
returns-in-200 c = eq_no _ _ _ _ (λ e. omega arith) (eq_yes _ _ _ _ c.in-200.is refl)

pub returns-in-202 : goal.returns-in-202
unfolding kind_of
returns-in-202 c = eq_no _ _ _ _ (λ e. omega arith) (eq_no _ _ _ _ (λ e. omega arith) (eq_yes _ _ _ _ c.in-202.is refl))

pub returns-in-203 : goal.returns-in-203
unfolding kind_of
returns-in-203 c = eq_no _ _ _ _ (λ e. omega arith) (eq_no _ _ _ _ (λ e. omega arith) (eq_no _ _ _ _ (λ e. omega arith) (eq_yes _ _ _ _ c.in-203.is refl)))

pub returns-in-204 : goal.returns-in-204
unfolding kind_of
returns-in-204 c = eq_no _ _ _ _ (λ e. omega arith) (eq_no _ _ _ _ (λ e. omega arith) (eq_no _ _ _ _ (λ e. omega arith) (eq_no _ _ _ _ (λ e. omega arith) (eq_yes _ _ _ _ c.in-204.is refl))))

pub returns-in_default : goal.returns-in_default
unfolding kind_of
returns-in_default c = let r = c.in_default.in_default-own.rest in
    eq_no _ _ _ _ r.0.0.0.0.1 (eq_no _ _ _ _ r.0.0.0.1 (eq_no _ _ _ _ r.0.0.1 (eq_no _ _ _ _ r.0.1 (eq_no _ _ _ _ r.1 refl))))
