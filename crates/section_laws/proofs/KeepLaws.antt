-- This library keeps what the statements say.
use Rattle.section.proofs.EncodingLaws.{once}
use Rattle.section.proofs.AcceptedLaws.{exactly}
use Rattle.section.proofs.AnyKindLaws.{exactly_any}
use Rattle.section_laws.specs.Accepted.{Unique, Keeps}
use Rattle.section_laws.specs.Ours.{ours}
use Rattle.section_laws.specs.Rows.{KeepsRows, ours_rows}
use Rattle.section_laws.proofs.TableLaws.{mgt_reads, defined_reads, tvct_reads, channel_reads, rrt_reads, dimension_reads, value_reads, eit_reads_lem, event_reads, ett_reads_lem}
use Rattle.section_laws.proofs.QuestionLaws.{rating_reads, descriptor_reads, place_reads}
use Rattle.section_laws.proofs.RowLaws.{row_count_reads, rows_store}
use Rattle.section_laws.proofs.ValueRowLaws.{value_count_reads, value_rows_store}
use Rattle.section_laws.proofs.TextLaws.{count_reads, heading_reads, units_reads, field_count_reads, field_heading_reads, field_units_reads}
use Rattle.section_laws.proofs.TitleLaws.{titles_read, title_rows_store, title_units_store}

pub kept : Keeps ours
kept = record {
  judge = exactly;
  judge_all = exactly_any;
  mgt = mgt_reads;
  defined = defined_reads;
  tvct = tvct_reads;
  channel = channel_reads;
  rrt = rrt_reads;
  dimension = dimension_reads;
  value = value_reads;
  eit = eit_reads_lem;
  event = event_reads;
  rating = rating_reads;
  descriptor = descriptor_reads;
  place = place_reads;
  ett = ett_reads_lem;
  count = count_reads;
  heading = heading_reads;
  units = units_reads;
  field_count = field_count_reads;
  field_heading = field_heading_reads;
  field_units = field_units_reads;
}

pub kept_rows : KeepsRows ours_rows
kept_rows = record {
  row_count = row_count_reads;
  rows = rows_store;
  value_row_count = value_count_reads;
  value_rows = value_rows_store;
  title_counts = titles_read;
  title_rows = title_rows_store;
  title_units = title_units_store;
}

pub unique : Unique
unique = once
