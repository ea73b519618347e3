-- `rrt_numbers` meets its contract.
use Rattle.row.specs.Rows.{part_row}
use Rattle.telling.specs.Tables.{rrt_numbers}
use Rattle.telling.proofs.tables.rrt_numbers.Goals as goal

pub returns : goal.returns
unfolding rrt_numbers part_row
returns c =
    rw (
      c.note-7.ensures,
      c.note-6.ensures,
      c.note-5.ensures,
      c.note-4.ensures,
      c.note-3.ensures,
      c.note-2.ensures,
      c.note.ensures,
    )
