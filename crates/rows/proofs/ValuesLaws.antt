-- The rows of all values, stored one after the other: those that are left lead to the answer.
use Prim.Native.Nat.{ℕ, zero, suc, ◌+◌, ◌-◌, ◌*◌, ◌≤◌, ◌<◌}
use mathlib.Core.Path.{◌≡◌, refl, sym, ap, ◌∙◌}
use mathlib.Core.List.{List}
use native.Mathlib.Numerals.{sub-one}
use native.Mathlib.Omega.{arith}
use lib.ListN.{length, length-append}
use lib.Seq.{sets, length-sets}
use Rattle.refusal.specs.Outcomes.{refused, resulted}
use Rattle.refusal.proofs.TestLaws.{lets_le, stops_le}
use Rattle.format.specs.Repeats.{Bytes}
use Rattle.strings.specs.Places.{text_end}
use Rattle.row.proofs.RowLaws.{sets_append}
use Rattle.rrt.specs.Fields.{values_at, first_value_at, value_end, values_end, dimension_end, value_row}
use Rattle.rrt.specs.Inner.{ValuesStand}
use Rattle.rrt.proofs.EndLaws.{values_step, values_more, values_none}
use Rattle.rrt.proofs.RowLaws.{row_six}
use Rattle.entry.specs.declared.Entry.TheVariants as entries
use Rattle.entry.specs.Entries.{entry_count, first_entry}
use Rattle.entry.specs.declared.Entry.TheVariants.{Dimension}
use Rattle.rows.specs.Rows.{next_at, room_for_rows}
use Rattle.rows.specs.Values.{value_rows, dimension_rows, value_count, value_rows_in, with_value_rows}
use Rattle.rows.specs.Inner.{Entries}
use Rattle.rows.proofs.RowsLaws.{entries_step}

-- ---- the values of a dimension
-- what holds while their rows are stored: those that are left stand, their rows have room, to store them leads to the answer, and
-- they end where all do
pub record ValuesLeft (s : List ℕ) (i last size : ℕ) (final l : List ℕ) (j a p n : ℕ) : Type 0 where
  pub stand : ValuesStand s n a
  pub same : length l ≡ size
  pub room : p + 6 * n ≤ size
  pub ends : values_end s n a ≡ last
  pub leads : sets l p (value_rows s i j n a) ≡ final

pub values_begin : (s : List ℕ) (i n k a p : ℕ) (l : List ℕ) → k ≡ n → ValuesStand s n a → p + 6 * n ≤ length l
    → ValuesLeft s i (values_end s n a) (length l) (sets l p (value_rows s i 0 n a)) l 0 a p k
values_begin s i n k a p l e t h = rw e (record { stand = t; same = refl; room = h; ends = refl; leads = refl })

module _ (s : List ℕ) (i : ℕ) where
  rows_length : (j n a : ℕ) → length (value_rows s i j n a) ≡ 6 * n
  unfolding value_rows
  rows_length j zero a = refl
  rows_length j (suc n) a =
      let e = length-append (value_row s i j a) (value_rows s i (j + 1) n (value_end s a)) in
      omega (arith, e, row_six s i j a, rows_length (j + 1) n (value_end s a))

  value_more : (l : List ℕ) (p j n a : ℕ) → 0 < n
      → sets (sets l p (value_row s i j a)) (p + 6) (value_rows s i (j + 1) (n - 1) (value_end s a)) ≡ sets l p (value_rows s i j n a)
  unfolding value_rows
  value_more l p j zero a h = absurd (omega arith)
  value_more l p j (suc n) a h =
      rw sub-one
      (ap (λ (k : ℕ). sets (sets l p (value_row s i j a)) (p + k) (value_rows s i (j + 1) n (value_end s a))) (sym (row_six s i j a))
      ∙ sym (sets_append (value_row s i j a) (value_rows s i (j + 1) n (value_end s a)) l p))

  value_none : (l : List ℕ) (p j n a : ℕ) → n ≡ 0 → l ≡ sets l p (value_rows s i j n a)
  unfolding value_rows
  value_none l p j n a e = rw e

  module _ (last size : ℕ) (final l : List ℕ) (j a p n : ℕ) (left : ValuesLeft s i last size final l j a p n) where
    -- the next row has room
    pub values_room : 0 < n → p + 6 ≤ length l
    values_room h = omega (arith, left.room, left.same)

    pub values_next : (m : List ℕ) (b k : ℕ) → 0 < n → m ≡ sets l p (value_row s i j a) → b ≡ value_end s a → k ≡ n - 1
        → ValuesLeft s i last size final m (j + 1) b (p + 6) k
    values_next m b k h put next e =
        rw (next, e)
        (record {
          stand = (values_step s n a h left.stand).1;
          same = ap length put ∙ length-sets l p (value_row s i j a) ∙ left.same;
          room = omega (arith, left.room);
          ends = values_more s n a h ∙ left.ends;
          leads = rw put (value_more l p j n a h ∙ left.leads);
        })

    pub values_done : n ≡ 0 → (a ≡ last) × (l ≡ final)
    values_done e = (values_none s n a e ∙ left.ends, value_none l p j n a e ∙ left.leads)

-- ---- the dimensions
pub dimensions_step : (s : List ℕ) (n d : ℕ) → 0 < n → Entries Dimension s n d → Entries Dimension s (n - 1) (dimension_end s d)
unfolding next_at
dimensions_step s n d h t = entries_step Dimension s n d h t

pub count_step : (s : List ℕ) (n d : ℕ) → 0 < n → value_count s n d ≡ values_at s d + value_count s (n - 1) (dimension_end s d)
unfolding value_count
count_step s zero d h = absurd (omega arith)
count_step s (suc n) d h = rw sub-one refl

pub count_none : (s : List ℕ) (n d : ℕ) → n ≡ 0 → value_count s n d ≡ 0
unfolding value_count
count_none s n d e = rw e

-- what holds while the rows of their values are stored
pub record DimensionsLeft (s : List ℕ) (size : ℕ) (final l : List ℕ) (i d p n : ℕ) : Type 0 where
  pub entries : Entries Dimension s n d
  pub same : length l ≡ size
  pub room : p + 6 * value_count s n d ≤ size
  pub leads : sets l p (dimension_rows s i n d) ≡ final

pub dimensions_begin : (s : List ℕ) (n k d : ℕ) (l : List ℕ) → k ≡ n → Entries Dimension s n d → 6 * value_count s n d ≤ length l
    → DimensionsLeft s (length l) (sets l 0 (dimension_rows s 0 n d)) l 0 d 0 k
dimensions_begin s n k d l e t h = rw e (record { entries = t; same = refl; room = omega (arith, h); leads = refl })

module _ (s : List ℕ) where
  dimension_more : (l : List ℕ) (p i n d : ℕ) → 0 < n
      → sets (sets l p (value_rows s i 0 (values_at s d) (first_value_at s d))) (p + 6 * values_at s d) (dimension_rows s (i + 1) (n - 1) (dimension_end s d))
      ≡ sets l p (dimension_rows s i n d)
  unfolding dimension_rows
  dimension_more l p i zero d h = absurd (omega arith)
  dimension_more l p i (suc n) d h =
      let xs = value_rows s i 0 (values_at s d) (first_value_at s d) in
      rw sub-one
      (ap (λ (k : ℕ). sets (sets l p xs) (p + k) (dimension_rows s (i + 1) n (dimension_end s d))) (sym (rows_length s i 0 (values_at s d) (first_value_at s d)))
      ∙ sym (sets_append xs (dimension_rows s (i + 1) n (dimension_end s d)) l p))

  dimension_none : (l : List ℕ) (p i n d : ℕ) → n ≡ 0 → l ≡ sets l p (dimension_rows s i n d)
  unfolding dimension_rows
  dimension_none l p i n d e = rw e

  module _ (size : ℕ) (final l : List ℕ) (i d p n : ℕ) (left : DimensionsLeft s size final l i d p n) where
    -- the rows of the next dimension's values have room
    pub dimensions_room : 0 < n → p + 6 * values_at s d ≤ length l
    dimensions_room h = let e = count_step s n d h in omega (arith, e, left.room, left.same)

    pub dimensions_next : (m : List ℕ) (b v f k : ℕ) → 0 < n → v ≡ values_at s d → f ≡ first_value_at s d → m ≡ sets l p (value_rows s i 0 v f)
        → b ≡ values_end s v f → k ≡ n - 1 → DimensionsLeft s size final m (i + 1) b (p + 6 * v) k
    unfolding dimension_end
    dimensions_next m b v f k h many first put next e =
        rw (next, e, many, first)
        (record {
          entries = dimensions_step s n d h left.entries;
          same = ap length put ∙ length-sets l p (value_rows s i 0 v f) ∙ left.same;
          room = let c = count_step s n d h in omega (arith, c, left.room);
          leads = rw (put, many, first) (dimension_more l p i n d h ∙ left.leads);
        })

    pub dimensions_done : n ≡ 0 → l ≡ final
    dimensions_done e = dimension_none l p i n d e ∙ left.leads

-- ---- whether the rows of all values have room, and what the lent list is then
pub dimensions_few : (s : List ℕ) → Bytes s → entry_count entries.Dimension s < 256
unfolding entry_count
dimensions_few s z = omega (arith, z (text_end s 9))

module _ (s l : List ℕ) (n : ℕ) (counted : n ≡ value_count s (entry_count entries.Dimension s) (first_entry entries.Dimension s)) where
  pub values_short : length l < 6 * n → (refused 12 ≡ value_rows_in s (length l)) × (l ≡ with_value_rows s (value_rows_in s (length l)) l)
  unfolding value_rows_in room_for_rows with_value_rows
  values_short h =
      let k = rw counted at h in
      let c = value_count s (entry_count entries.Dimension s) (first_entry entries.Dimension s) in
      let e = stops_le 12 (6 * c) (length l) (resulted c) {r = refused 12} k refl in
      (e, rw (← e))

  pub values_fit : (m : List ℕ) → 6 * n ≤ length l → m ≡ sets l 0 (dimension_rows s 0 (entry_count entries.Dimension s) (first_entry entries.Dimension s))
      → (resulted n ≡ value_rows_in s (length l)) × (m ≡ with_value_rows s (value_rows_in s (length l)) l)
  unfolding value_rows_in room_for_rows with_value_rows
  values_fit m h put =
      let k = rw counted at h in
      let c = value_count s (entry_count entries.Dimension s) (first_entry entries.Dimension s) in
      let e = lets_le 12 (6 * c) (length l) (resulted c) {r = resulted n} k (ap resulted counted) in
      (e, rw (← e) put)
