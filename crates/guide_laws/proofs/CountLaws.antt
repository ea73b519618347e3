-- How many rows, values, events and units there are has 32 bits, and so has the length of a section that is written.
use Prim.Native.Nat.{ℕ, zero, suc, ◌+◌, ◌*◌, ◌≤◌, ◌<◌}
use mathlib.Core.Path.{◌≡◌}
use mathlib.Core.List.{List}
use native.Mathlib.Omega.{arith}
use lib.ListN.{length}
use borrow.Author.Tests.{leb-true}
use Rattle.logic.proofs.LoopLaws.{and_left}
use Rattle.refusal.specs.Outcomes.{Outcome, resulted}
use Rattle.refusal.specs.Outputs.{counted}
use Rattle.refusal.proofs.OutcomeLaws.{after_is, same_result, went_on}
use Rattle.refusal.proofs.TestLaws.{passed_le}
use Rattle.kind.specs.declared.Kind.{Kind}
use Rattle.kind.specs.declared.Kind.TheVariants.{Rrt, Eit, Ett}
use Rattle.kind.specs.Kinds.{only_of, limits_of}
use Rattle.format.specs.Repeats.{Bytes}
use Rattle.rrt.specs.Fields.{dimension_end}
use Rattle.section.specs.Sections.{section_by}
use Rattle.section.specs.Writing.{length_fits}
use Rattle.writing.specs.Written.{allowed, eit_written, ett_written}
use Rattle.strings.specs.Places.{text_end}
use Rattle.entry.specs.declared.Entry.{Entry}
use Rattle.entry.specs.declared.Entry.TheVariants.{Table, Channel, Dimension, Event}
use Rattle.entry.specs.Entries.{entry_count, first_entry}
use Rattle.entry.specs.Records.{kind_of_entry}
use Rattle.rows.specs.Rows.{row_width, room_for_rows, rows_in, rows_of}
use Rattle.rows.specs.Values.{value_count, value_rows_in, value_rows_of}
use Rattle.titles.specs.Titles as titles
use Rattle.titles.proofs.TitlesLaws.{units_few, judged_events}
use Rattle.telling.specs.Told.{one_number}
use Rattle.telling.specs.Titled.{counts_numbers}
use Rattle.guide_laws.specs.Whole.{Whole, CountsWhole, WrittenWhole}
use Rattle.guide_laws.proofs.SmallLaws.{told_whole, word_small, largest_small, judged_size}

module _ (s : List ℕ) (bytes : Bytes s) where
  count_small : (e : Entry) → entry_count e s < 65536
  unfolding entry_count
  count_small Table = word_small s bytes 9
  count_small Channel = omega (arith, bytes 9)
  count_small Dimension = omega (arith, bytes (text_end s 9))
  count_small Event = omega (arith, bytes 9)

  -- a count for which there is room
  room_whole : (w n room : ℕ) → n < 4294967296 → Whole one_number (room_for_rows w n room)
  unfolding room_for_rows
  room_whole w n room h a e = told_whole one_number n a (passed_le 12 (w * n) room _ a e).1 (h, record {})

  rows_whole : (r : Entry) (room : ℕ) → Whole one_number (rows_of r s room)
  unfolding rows_of rows_in
  rows_whole r room a e =
      let p = after_is (section_by (only_of (kind_of_entry r)) s) _ a e in
      room_whole (row_width r) (entry_count r s) room (omega (arith, count_small r)) a p.1.1

  -- a dimension has at most fifteen values
  values_small : (n d : ℕ) → value_count s n d ≤ 15 * n
  unfolding value_count
  values_small zero d = omega arith
  values_small (suc n) d = omega (arith, values_small n (dimension_end s d))

  values_whole : (room : ℕ) → Whole one_number (value_rows_of s room)
  unfolding value_rows_of value_rows_in
  values_whole room a e =
      let p = after_is (section_by (only_of Rrt) s) _ a e in
      room_whole 6 _ room (omega (arith, values_small (entry_count Dimension s) (first_entry Dimension s), count_small Dimension)) a p.1.1

  titles_whole : (rows units : ℕ) → Whole counts_numbers (titles.titles_of s rows units)
  unfolding titles.titles_of titles.titles_in titles.room_for_titles
  titles_whole rows units a e =
      let p = after_is (section_by (only_of Eit) s) _ a e in
      let q = passed_le 12 (12 * titles.event_count s) rows _ a p.1.1 in
      let t = passed_le 12 (length (titles.units_from s (titles.event_count s) titles.first_event)) units _ a q.1 in
      let n = judged_size Eit s p.0 p.1.0 in
      let few = units_few s (titles.event_count s) titles.first_event (judged_events s p.0 p.1.0) in
      told_whole counts_numbers _ a t.1 (omega (arith, bytes 9), (omega (arith, n, few), record {}))

  pub counts_whole : CountsWhole s
  counts_whole = record { rows = rows_whole; values = values_whole; titles = titles_whole }

-- ---- what is written
largest_whole : (k : Kind) (room : ℕ) (bytes : List ℕ) (s : List ℕ) → allowed k room bytes ≡ resulted s → length s ≤ 4096
unfolding allowed length_fits
largest_whole k room bytes s e =
    let p = went_on 24 _ (resulted bytes) s e in
    let n = leb-true (length bytes) ((limits_of k).largest + 3) (and_left _ _ p.0) in
    let m = largest_small k in
    rw (← same_result bytes s p.1) (omega arith)

counted_whole : (x : Outcome (List ℕ)) → ((s : List ℕ) → x ≡ resulted s → length s ≤ 4096) → Whole one_number (counted x)
unfolding counted
counted_whole x h n e =
    let p = after_is x _ n e in
    told_whole one_number _ n p.1.1 (omega (arith, h p.0 p.1.0), record {})

pub written_whole : (q : List ℕ) → WrittenWhole q
unfolding eit_written ett_written
written_whole q = record {
  eit = λ rows bytes room. counted_whole _ (λ s e.
      largest_whole Eit room _ s (went_on 9 _ _ s (went_on 8 _ _ s (went_on 23 _ _ s e).1).1).1);
  ett = λ text room. counted_whole _ (λ s e.
      largest_whole Ett room _ s (went_on 9 _ _ s (went_on 8 _ _ s (went_on 23 _ _ s e).1).1).1);
}
