-- `put_texts` meets its contract: one part after the other.
use mathlib.Core.Path.{◌∙◌}
use Rattle.rrt.specs.Fields.{texts_at, texts_row}
use Rattle.rrt.proofs.RowLaws.{parts_stored}
use Rattle.rrt.proofs.numbers.put_texts.Goals as goal

pub returns : goal.returns
unfolding texts_row texts_at
returns c =
    let b = c.text_end-b.ensures.0 in record { next = rw (← b) c.text_end.ensures.0; puts = c.put_part-2.ensures ∙ parts_stored _ _ _ _ _ c.put_part.ensures ∙ rw (c.text_at.ensures.0, c.text_at-2.ensures.0, b) }
