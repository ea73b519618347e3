-- `defined_numbers` meets its contract.
use Rattle.row.specs.Rows.{part_row}
use Rattle.telling.specs.Tables.{defined_numbers}
use Rattle.telling.proofs.tables.defined_numbers.Goals as goal

pub returns : goal.returns
unfolding defined_numbers part_row
returns c =
    rw (
      c.note-6.ensures,
      c.note-5.ensures,
      c.note-4.ensures,
      c.note-3.ensures,
      c.note-2.ensures,
      c.note.ensures,
    )
