-- `event_numbers` meets its contract.
use Rattle.row.specs.Rows.{part_row}
use Rattle.telling.specs.Tables.{event_numbers}
use Rattle.telling.proofs.tables.event_numbers.Goals as goal

pub returns : goal.returns
unfolding event_numbers part_row
returns c =
    rw (
      c.note-9.ensures,
      c.note-8.ensures,
      c.note-7.ensures,
      c.note-6.ensures,
      c.note-5.ensures,
      c.title_sort.ensures,
      c.note-4.ensures,
      c.note-3.ensures,
      c.note-2.ensures,
      c.note.ensures,
      c.title_place-p.ensures,
    )
