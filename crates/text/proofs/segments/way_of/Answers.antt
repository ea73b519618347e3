-- `way_of` meets its contract.
use Rattle.text.specs.Segments.{way_of}
use Rattle.logic.proofs.ChoiceLaws.{eq_yes, eq_no}
use native.Mathlib.Omega.{arith}
use mathlib.Core.Path.{refl}
use Rattle.text.proofs.segments.way_of.Goals as goal

pub returns-in-0-eq0 : goal.returns-in-0-eq0
unfolding way_of
returns-in-0-eq0 c = eq_yes _ _ _ _ (omega arith) (eq_yes _ _ _ _ (omega arith) refl)

pub returns-in-0-eq1 : goal.returns-in-0-eq1
unfolding way_of
returns-in-0-eq1 c = eq_yes _ _ _ _ (omega arith) (eq_no _ _ _ _ (λ h. omega arith) (eq_yes _ _ _ _ (omega arith) refl))

pub returns-in-0-eq2 : goal.returns-in-0-eq2
unfolding way_of
returns-in-0-eq2 c =
    eq_yes _ _ _ _ (omega arith) (eq_no _ _ _ _ (λ h. omega arith) (eq_no _ _ _ _ (λ h. omega arith) (eq_yes _ _ _ _ (omega arith) refl)))

pub returns-in-63-eq0 : goal.returns-in-63-eq0
unfolding way_of
returns-in-63-eq0 c = eq_no _ _ _ _ (λ h. omega arith) (eq_yes _ _ _ _ (omega arith) (eq_yes _ _ _ _ (omega arith) refl))

pub returns-in_default : goal.returns-in_default
unfolding way_of
returns-in_default c =
    let n = c.in_default.is-1 in
    eq_yes _ _ _ _ c.in_default.is-0 (eq_no _ _ _ _ n.0.0.1 (eq_no _ _ _ _ n.0.1 (eq_no _ _ _ _ n.1 refl)))

pub returns-in_default-2 : goal.returns-in_default-2
unfolding way_of
returns-in_default-2 c =
    let n = c.in_default.is-1 in
    eq_no _ _ _ _ (λ h. omega arith) (eq_yes _ _ _ _ c.in_default.is-0 (eq_no _ _ _ _ n.1 refl))

pub returns-in_default-3 : goal.returns-in_default-3
unfolding way_of
returns-in_default-3 c =
    let n = c.in_default.is-0 in
    eq_no _ _ _ _ n.0.1 (eq_no _ _ _ _ n.1 refl)
