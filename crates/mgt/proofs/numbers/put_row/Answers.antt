-- `put_row` meets its contract: the numbers, and after them the part.
use mathlib.Core.Path.{◌∙◌}
use Rattle.mgt.specs.Fields.{defined_end}
use Rattle.mgt.proofs.DefinedLaws.{row_stored}
use Rattle.mgt.proofs.numbers.put_row.Goals as goal

pub returns : goal.returns
unfolding defined_end
returns c =
    record { next = c.list_end.ensures.0; puts = c.put_part.ensures ∙ row_stored _ _ _ _ _ _ c.put_numbers.ensures c.descriptors_at.ensures.0 }
