-- `to_come` meets its contract.
use mathlib.Core.Path.{refl, sym, ◌∙◌}
use native.Mathlib.Omega.{arith}
use Rattle.logic.proofs.ChoiceLaws.{lt_yes, lt_no, eq_yes, eq_no}
use Rattle.record.specs.Records.{to_come}
use Rattle.record.proofs.to_come.Goals as goal
use Rattle.record.proofs.to_come.Goals.{else-head-ge-HEAD-via-then-head-ge-HEAD+else-word-eq-MARK, else-head-ge-HEAD-via-else-head-ge-HEAD}

pub returns-then-word-eq-MARK : goal.returns-then-word-eq-MARK
unfolding to_come
returns-then-word-eq-MARK c =
    (lt_no _ _ _ _ c.if-head-ge-HEAD.true (eq_yes _ _ _ _ (sym c.word.ensures.0 ∙ c.if-word-eq-MARK.true) c.length_of.ensures.0), omega arith)

pub returns-else-head-ge-HEAD : goal.returns-else-head-ge-HEAD
unfolding to_come
returns-else-head-ge-HEAD c = (
  elim c.else-head-ge-HEAD.branch [
    | else-head-ge-HEAD-via-then-head-ge-HEAD+else-word-eq-MARK w ↦ lt_no _ _ _ _ w.if-head-ge-HEAD.true (eq_no _ _ _ _ (λ e. w.if-word-eq-MARK.false (w.word.ensures.0 ∙ e)) refl)
    | else-head-ge-HEAD-via-else-head-ge-HEAD w ↦ lt_yes _ _ _ _ w.if-head-ge-HEAD.false refl
  ],
  omega arith,
)
