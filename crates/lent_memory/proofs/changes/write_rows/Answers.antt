-- `write_rows` meets its contract: the rows so far are written.
use mathlib.Core.Path.{◌∙◌}
use Rattle.lent_memory.proofs.RowLaws.{written_none, written_other, written_same}
use Rattle.lent_memory.proofs.changes.write_rows.Goals as goal
use Rattle.lent_memory.proofs.changes.write_rows.Goals.{else-ne, then-ne}

pub loop-i-init : goal.loop-i-init
loop-i-init c = written_none _ _ _

pub loop-i-preserved : goal.loop-i-preserved
loop-i-preserved c = elim c.if-ne.branch [
  | then-ne w ↦ w.l-is ∙ (w.write_row.ensures ∙ written_other _ _ _ _ _ c.ne.ensures c.loop-i.invariant w.if-ne.true)
  | else-ne w ↦ w.l-is ∙ written_same _ _ _ _ _ c.ne.ensures c.loop-i.invariant w.if-ne.false
]
