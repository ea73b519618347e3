-- `put_row` meets its contract: the numbers, and after them the part.
use mathlib.Core.Path.{◌∙◌}
use Rattle.channel.specs.Fields.{channel_end}
use Rattle.channel.proofs.RowLaws.{row_stored}
use Rattle.channel.proofs.numbers.put_row.Goals as goal

pub returns : goal.returns
unfolding channel_end
returns c =
    record { next = c.list_end.ensures.0; puts = c.put_part.ensures ∙ row_stored _ _ _ _ _ _ _ c.channel_at.ensures c.put_numbers.ensures c.descriptors_at.ensures.0 }
