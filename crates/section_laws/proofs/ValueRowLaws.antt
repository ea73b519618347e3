-- The rows of all values of an RRT are those of the values of the record's dimensions.
use Prim.Native.Nat.{ℕ, ◌+◌, ◌-◌, ◌≤◌}
use mathlib.Core.Path.{◌≡◌, refl, ap, ◌∙◌, subst}
use mathlib.Core.List.{List, [], ◌∷◌, ◌++◌}
use lib.ListN.{length}
use lib.Seq.{sets}
use Rattle.refusal.specs.Outcomes.{Outcome, refused, resulted}
use Rattle.refusal.proofs.OutcomeLaws.{after_result, after_refused}
use Rattle.kind.specs.declared.Kind.TheVariants.{Rrt}
use Rattle.format.specs.Lawful.{Lies}
use Rattle.format.specs.Repeats.{Bytes}
use Rattle.format.proofs.ListedLaws.{Stand, first_lies, first_inside, rest_stand}
use Rattle.rrt.specs.Format.{ValueFields, value_format, DimensionFields, dimension_format}
use Rattle.rrt.specs.Fields.{values_at, first_value_at}
use Rattle.rrt.specs.Values.{first_value_for, value_row_for}
use Rattle.rrt.proofs.ThereLaws as rrts
use Rattle.section.specs.Encoding.{Section, encode, WellFormed}
use Rattle.section.proofs.EncodingLaws.{encode_bytes, accepts}
use Rattle.entry.specs.declared.Entry.TheVariants.{Dimension}
use Rattle.entry.specs.Entries.{entry_count, first_entry}
use Rattle.entry.specs.Records.{entries_of, begin_of}
use Rattle.entry.proofs.RecordLaws.{first_there, count_there, entries_stand}
use Rattle.rows.specs.Rows.{room_for_rows}
use Rattle.rows.specs.Values.{value_rows, dimension_rows, value_count, value_rows_in, value_rows_of, with_value_rows}
use Rattle.section_laws.specs.Accepted.{Reads}
use Rattle.section_laws.specs.Rows.{stored_rows, numbered, dimension_rows_told, value_rows_told, values_in, value_count_told, Stores}

module _ (s : List ℕ) (z : Bytes s) (end : ℕ) where
  -- ---- of values that lie one after the other
  values_there : (i j a : ℕ) (vs : List ValueFields) → Stand value_format s end a vs
      → value_rows s i j (length vs) a ≡ numbered value_format.enc (value_row_for i) j a vs
  unfolding value_rows numbered
  values_there i j a [] g = refl
  values_there i j a (v ∷ vs) g =
      let l = first_lies value_format s end a v vs g in
      let e = rrts.value_row_there s z a v g.good.0 l i j in
      let n = ap (value_rows s i (j + 1) (length vs)) (rrts.value_end_there s z a v g.good.0 l) in
      let u = n ∙ values_there i (j + 1) (a + length (value_format.enc v)) vs (rest_stand value_format s end a v vs g) in
      λ k. e k ++ u k

  -- ---- of a dimension that lies at d
  module _ (d : ℕ) (x : DimensionFields) (o : dimension_format.Formed (record {}) x) (l : Lies (dimension_format.enc x) s d)
      (inside : d + length (dimension_format.enc x) ≤ end) where
    dimension_there : (i : ℕ) → value_rows s i 0 (values_at s d) (first_value_at s d) ≡ dimension_rows_told i d x
    dimension_there i =
        let t = rrts.values_there s z d x o l end inside in
        let f = rrts.first_value_there s z d x o l in
        (λ k. value_rows s i 0 (t.0 k) (f k))
        ∙ values_there i 0 (first_value_for d x) x.values (subst (λ a. Stand value_format s end a x.values) f t.1)

    dimension_counts : values_at s d ≡ length x.values
    dimension_counts = (rrts.values_there s z d x o l end inside).0

  -- ---- and of several, one after the other
  dimensions_there : (i d : ℕ) (xs : List DimensionFields) → Stand dimension_format s end d xs
      → dimension_rows s i (length xs) d ≡ numbered dimension_format.enc dimension_rows_told i d xs
  unfolding dimension_rows numbered
  dimensions_there i d [] g = refl
  dimensions_there i d (x ∷ xs) g =
      let l = first_lies dimension_format s end d x xs g in
      let e = dimension_there d x g.good.0 l (first_inside dimension_format s end d x xs g) i in
      let n = ap (dimension_rows s (i + 1) (length xs)) (rrts.end_there s z d x g.good.0 l) in
      let u = n ∙ dimensions_there (i + 1) (d + length (dimension_format.enc x)) xs (rest_stand dimension_format s end d x xs g) in
      λ k. e k ++ u k

  dimensions_count : (d : ℕ) (xs : List DimensionFields) → Stand dimension_format s end d xs → value_count s (length xs) d ≡ values_in xs
  unfolding value_count values_in
  dimensions_count d [] g = refl
  dimensions_count d (x ∷ xs) g =
      let l = first_lies dimension_format s end d x xs g in
      let e = dimension_counts d x g.good.0 l (first_inside dimension_format s end d x xs g) in
      let n = ap (value_count s (length xs)) (rrts.end_there s z d x g.good.0 l) in
      let u = n ∙ dimensions_count (d + length (dimension_format.enc x)) xs (rest_stand dimension_format s end d x xs g) in
      λ k. e k + u k

-- ---- the number of rows, and the lent list
module _ (y : Section Rrt) (o : WellFormed Rrt y) where
  rows_told : dimension_rows (encode y) 0 (entry_count Dimension (encode y)) (first_entry Dimension (encode y)) ≡ value_rows_told y
  rows_told =
      (λ k. dimension_rows (encode y) 0 (count_there Dimension y o k) (first_there Dimension y o k))
      ∙ dimensions_there (encode y) (encode_bytes Rrt y o) (length (encode y) - 4) 0 (begin_of Dimension y) (entries_of Dimension y) (entries_stand Dimension y o)

  count_told_lem : (room : ℕ) → value_rows_of (encode y) room ≡ value_count_told room y
  unfolding value_rows_of value_rows_in
  count_told_lem room =
      let c = (λ k. value_count (encode y) (count_there Dimension y o k) (first_there Dimension y o k))
      ∙ dimensions_count (encode y) (encode_bytes Rrt y o) (length (encode y) - 4) (begin_of Dimension y) (entries_of Dimension y) (entries_stand Dimension y o) in
      after_result _ _ _ (accepts Rrt y o) ∙ ap (λ n. room_for_rows 6 n room) c

pub value_count_reads : (room : ℕ) → Reads Rrt (λ s. value_rows_of s room) (value_count_told room)
unfolding value_rows_of
value_count_reads room = record { tells = λ y o. count_told_lem y o room; refuses = λ s n q. after_refused _ _ n q }

store_told : (s l rows : List ℕ) (o : Outcome ℕ) → dimension_rows s 0 (entry_count Dimension s) (first_entry Dimension s) ≡ rows
    → with_value_rows s o l ≡ stored_rows l rows o
unfolding with_value_rows stored_rows
store_told s l rows (refused n) e = refl
store_told s l rows (resulted n) e = ap (sets l 0) e

pub value_rows_store : Stores Rrt (λ l s. with_value_rows s (value_rows_of s (length l)) l) (λ l y. stored_rows l (value_rows_told y) (value_count_told (length l) y))
unfolding with_value_rows
value_rows_store = record {
  stores = λ l y o.
      ap (λ x. with_value_rows (encode y) x l) (count_told_lem y o (length l))
      ∙ store_told (encode y) l (value_rows_told y) (value_count_told (length l) y) (rows_told y o);
  keeps = λ l s n q. ap (λ x. with_value_rows s x l) ((value_count_reads (length l)).refuses s n q);
}
