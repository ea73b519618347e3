-- `Kind::only` meets its contract.
use native.Mathlib.Omega.{arith}
use mathlib.Core.Path.{refl}
use Rattle.logic.proofs.ChoiceLaws.{eq_yes, eq_no}
use Rattle.kind.specs.Kinds.{only_of}
use Rattle.kind.proofs.Kind.only.Goals as goal

pub returns-then-id-table_id : goal.returns-then-id-table_id
unfolding only_of
returns-then-id-table_id c = eq_yes _ _ _ _ (omega arith) refl

pub returns-else-id-table_id : goal.returns-else-id-table_id
unfolding only_of
returns-else-id-table_id c = eq_no _ _ _ _ (λ e. omega arith) refl
