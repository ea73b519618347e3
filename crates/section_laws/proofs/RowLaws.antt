-- The rows of all entries are those of the record's entries.
use Prim.Native.Nat.{ℕ, ◌+◌, ◌-◌, ◌*◌}
use mathlib.Core.Path.{◌≡◌, refl, sym, ap, ◌∙◌}
use mathlib.Core.List.{List, [], ◌∷◌, ◌++◌}
use lib.ListN.{length}
use lib.Seq.{sets}
use Rattle.refusal.specs.Outcomes.{Outcome, refused, resulted}
use Rattle.refusal.proofs.OutcomeLaws.{same_result, after_result, after_refused}
use Rattle.refusal.proofs.TestLaws.{passed_le}
use Rattle.format.specs.Lawful.{Lies}
use Rattle.format.specs.Repeats.{Bytes}
use Rattle.format.specs.Listed.{all_of}
use Rattle.format.proofs.ListedLaws.{Stand, first_lies, rest_stand}
use Rattle.mgt.proofs.ThereLaws as mgts
use Rattle.channel.proofs.ThereLaws as channels
use Rattle.rrt.proofs.ThereLaws as rrts
use Rattle.eit.proofs.ThereLaws as eits
use Rattle.section.specs.Encoding.{Section, encode, WellFormed}
use Rattle.section.proofs.EncodingLaws.{encode_bytes, accepts}
use Rattle.entry.specs.Entries.{first_entry}
use Rattle.entry.specs.Records.{kind_of_entry, record_of, entries_of, begin_of}
use Rattle.entry.proofs.RecordLaws.{first_there, count_there, entries_stand}
use Rattle.entry.specs.declared.Entry.{Entry}
use Rattle.entry.specs.declared.Entry.TheVariants.{Table, Channel, Dimension, Event}
use Rattle.rows.specs.Rows.{row_width, row_at, next_at, rows_from, room_for_rows, rows_in, rows_of, with_rows}
use Rattle.section_laws.specs.Accepted.{Reads}
use Rattle.section_laws.specs.Rows.{row_told, rows_told, count_told, stored_rows, Stores}

-- ---- of an entry that lies at a
module _ (s : List ℕ) (z : Bytes s) where
  row_there : (r : Entry) (a : ℕ) (x : (record_of r).Val) → (record_of r).Formed (record {}) x → Lies ((record_of r).enc x) s a
      → row_at r s a ≡ row_told r a x
  unfolding row_at
  row_there Table a x o l = mgts.row_there s z a x o l
  row_there Channel a x o l = channels.row_there s z a x o l
  row_there Dimension a x o l = rrts.row_there s z a x o l
  row_there Event a x o l = eits.row_there s z a x o l

  next_there : (r : Entry) (a : ℕ) (x : (record_of r).Val) → (record_of r).Formed (record {}) x → Lies ((record_of r).enc x) s a
      → next_at r s a ≡ a + length ((record_of r).enc x)
  unfolding next_at
  next_there Table a x o l = mgts.end_there s z a x o l
  next_there Channel a x o l = channels.end_there s z a x o l
  next_there Dimension a x o l = rrts.end_there s z a x o l
  next_there Event a x o l = eits.end_there s z a x o l

  -- and of several, one after the other
  pub rows_there : (r : Entry) (end a : ℕ) (xs : List (record_of r).Val) → Stand (record_of r) s end a xs
      → rows_from r s (length xs) a ≡ all_of (record_of r).enc (row_told r) a xs
  unfolding rows_from all_of
  rows_there r end a [] g = refl
  rows_there r end a (x ∷ xs) g =
      let l = first_lies (record_of r) s end a x xs g in
      let e = row_there r a x g.good.0 l in
      let n = ap (rows_from r s (length xs)) (next_there r a x g.good.0 l) in
      let u = n ∙ rows_there r end (a + length ((record_of r).enc x)) xs (rest_stand (record_of r) s end a x xs g) in
      λ i. e i ++ u i

-- ---- the number of rows, and the lent list
count_told_lem : (r : Entry) (room : ℕ) (y : Section (kind_of_entry r)) → WellFormed (kind_of_entry r) y
    → rows_of r (encode y) room ≡ count_told r room y
unfolding rows_of rows_in
count_told_lem r room y o = after_result _ _ _ (accepts (kind_of_entry r) y o) ∙ ap (λ n. room_for_rows (row_width r) n room) (count_there r y o)

pub row_count_reads : (r : Entry) (room : ℕ) → Reads (kind_of_entry r) (λ s. rows_of r s room) (count_told r room)
unfolding rows_of
row_count_reads r room = record { tells = count_told_lem r room; refuses = λ s n q. after_refused _ _ n q }

room_is : (w c room n : ℕ) → room_for_rows w c room ≡ resulted n → c ≡ n
unfolding room_for_rows
room_is w c room n e = same_result c n (passed_le 12 (w * c) room (resulted c) n e).1

store_told : (r : Entry) (s l rows : List ℕ) (o : Outcome ℕ) → ((n : ℕ) → o ≡ resulted n → rows_from r s n (first_entry r s) ≡ rows)
    → with_rows r s o l ≡ stored_rows l rows o
unfolding with_rows stored_rows
store_told r s l rows (refused n) h = refl
store_told r s l rows (resulted n) h = ap (sets l 0) (h n refl)

pub rows_store : (r : Entry) → Stores (kind_of_entry r) (λ l s. with_rows r s (rows_of r s (length l)) l)
    (λ l y. stored_rows l (rows_told r y) (count_told r (length l) y))
unfolding with_rows
rows_store r = record {
  stores = λ l y o.
      let e = r in
      let t = rows_there (encode y) (encode_bytes (kind_of_entry e) y o) r (length (encode y) - 4) (begin_of e y) (entries_of e y) (entries_stand e y o) in
      let u = ap (rows_from r (encode y) (length (entries_of e y))) (first_there e y o) ∙ t in
      ap (λ x. with_rows r (encode y) x l) (count_told_lem r (length l) y o)
      ∙ store_told r (encode y) l (rows_told r y) (count_told r (length l) y)
      (λ n q. ap (λ m. rows_from r (encode y) m (first_entry e (encode y))) (sym (room_is (row_width r) _ (length l) n q)) ∙ u);
  keeps = λ l s n q. ap (λ x. with_rows r s x l) ((row_count_reads r (length l)).refuses s n q);
}
