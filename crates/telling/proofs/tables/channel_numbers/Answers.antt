-- `channel_numbers` meets its contract.
use native.Mathlib.Omega.{arith}
use Rattle.row.specs.Rows.{part_row}
use Rattle.channel.specs.Fields.{name_row, tuning_row, service_row, numbers_row}
use Rattle.telling.specs.Tables.{channel_numbers}
use Rattle.telling.proofs.ToldLaws.{as_told}
use Rattle.telling.proofs.tables.channel_numbers.Goals as goal

pub returns : goal.returns
unfolding channel_numbers numbers_row name_row tuning_row service_row part_row
returns c =
    as_told (omega arith) (as_told (omega arith) (as_told (omega arith) (as_told (omega arith) (as_told (omega arith) (as_told (omega arith) (as_told (omega arith) (
    as_told (omega arith) (as_told (omega arith) (as_told (omega arith) (as_told (omega arith) (as_told (omega arith) (as_told (omega arith) (
    as_told (omega arith) (as_told (omega arith) (as_told (omega arith) (as_told (omega arith) (as_told (omega arith) (as_told (omega arith) (
    rw (c.note-2.ensures, c.note.ensures))))))))))))))))))))
