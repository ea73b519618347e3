-- `is_whole` meets its contract.
use mathlib.Core.Path.{sym, ap, ◌∙◌}
use Prim.Native.Nat.{ℕ}
use lib.Dec.{eqb}
use Rattle.std.proofs.lemmas.Bool.{false≢true, lt-leb}
use Rattle.logic.proofs.ChoiceLaws.{lt_yes, lt_no, test_yes, test_no}
use Rattle.record.specs.Records.{whole}
use Rattle.record.proofs.RecordLaws.{long_enough}
use Rattle.record.proofs.is_whole.Goals as goal
use Rattle.record.proofs.is_whole.Goals.{then-bytes-ge-HEAD, else-bytes-ge-HEAD}

pub returns-then-word-eq-MARK : goal.returns-then-word-eq-MARK
unfolding whole
returns-then-word-eq-MARK c =
    elim c.if-bytes-ge-HEAD.branch [
      | then-bytes-ge-HEAD w ↦ lt_no _ _ _ _ w.if-bytes-ge-HEAD.true
          (test_yes _ _ _ _ (ap (λ (m : ℕ). eqb m 0xA55A) (sym w.word.ensures.0) ∙ sym w.value-is ∙ c.if-word-eq-MARK.true) (long_enough _ c.length_of.ensures.0))
      | else-bytes-ge-HEAD w ↦ absurd (false≢true (sym (lt-leb _ _ w.if-bytes-ge-HEAD.false) ∙ sym w.value-is ∙ c.if-word-eq-MARK.true))
    ]

pub returns-else-word-eq-MARK : goal.returns-else-word-eq-MARK
unfolding whole
returns-else-word-eq-MARK c =
    elim c.if-bytes-ge-HEAD.branch [
      | then-bytes-ge-HEAD w ↦ lt_no _ _ _ _ w.if-bytes-ge-HEAD.true
          (test_no _ _ _ _ (ap (λ (m : ℕ). eqb m 0xA55A) (sym w.word.ensures.0) ∙ sym w.value-is ∙ c.if-word-eq-MARK.false) c.if-word-eq-MARK.false)
      | else-bytes-ge-HEAD w ↦ lt_yes _ _ _ _ w.if-bytes-ge-HEAD.false c.if-word-eq-MARK.false
    ]
