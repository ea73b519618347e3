-- Rows stored one after the other: those that are left lead to the answer, whatever the table.
use Prim.Native.Nat.{ℕ, zero, suc, ◌+◌, ◌-◌, ◌*◌, ◌≤◌, ◌<◌}
use mathlib.Core.Path.{◌≡◌, refl, sym, ap, ◌∙◌, subst}
use mathlib.Core.List.{List}
use native.Mathlib.Nat.{mul-suc}
use native.Mathlib.Numerals.{sub-one}
use native.Mathlib.Omega.{arith}
use lib.ListN.{length}
use lib.Seq.{sets, length-sets}
use Rattle.std.specs.Prelude.{Ok}
use Rattle.bytes_at.specs.Walks.{many}
use Rattle.bytes_at.proofs.WalkLaws.{many_inv, reached}
use Rattle.refusal.specs.Outcomes.{refused, resulted}
use Rattle.refusal.proofs.TestLaws.{lets_le, stops_le}
use Rattle.kind.specs.Kinds.{limits_of, only_of}
use Rattle.format.specs.Formats.{walks}
use Rattle.format.specs.Repeats.{Bytes}
use Rattle.strings.specs.Places.{text_end}
use Rattle.row.proofs.RowLaws.{sets_append}
use Rattle.mgt.proofs.DefinedLaws.{defined_ends, row_six}
use Rattle.channel.proofs.ChannelLaws.{channel_ends}
use Rattle.channel.proofs.RowLaws.{row_21}
use Rattle.rrt.specs.Inner.{DimensionStands}
use Rattle.rrt.proofs.WalkLaws.{dimension_ends}
use Rattle.rrt.proofs.RowLaws.{row_four}
use Rattle.eit.proofs.EventLaws.{event_ends}
use Rattle.eit.proofs.RowLaws.{row_eight}
use Rattle.section.specs.declared.header.Header.{Header}
use Rattle.section.specs.Sections.{section_by}
use Rattle.section.proofs.SectionLaws.{section_sound}
use Rattle.entry.specs.Entries.{format_of, entry_count, first_entry, entry_walk}
use Rattle.entry.specs.Records.{kind_of_entry}
use Rattle.entry.specs.Inner.{Begins}
use Rattle.entry.proofs.EntryLaws.{entry_inside, judged_entries, judged_begins}
use Rattle.entry.specs.declared.Entry.{Entry}
use Rattle.entry.specs.declared.Entry.TheVariants.{Table, Channel, Dimension, Event}
use Rattle.rows.specs.Rows.{row_width, row_at, next_at, rows_from, room_for_rows, rows_in, with_rows}
use Rattle.rows.specs.Inner.{Entries}

-- ---- each table's row
row_length : (r : Entry) (s : List ℕ) (a : ℕ) → length (row_at r s a) ≡ row_width r
unfolding row_at
row_length Table s a = row_six s a
row_length Channel s a = row_21 s a
row_length Dimension s a = row_four s a
row_length Event s a = row_eight s a

-- an entry that a walk has passed ends where the next row begins
entry_ends : (r : Entry) (s : List ℕ) (end a b : ℕ) → walks (format_of r) s end a ≡ Ok b → b ≡ next_at r s a
unfolding format_of next_at
entry_ends Table s end a b w = defined_ends s end a b w
entry_ends Channel s end a b w = channel_ends s end a b w
entry_ends Dimension s end a b w = dimension_ends s end a b w
entry_ends Event s end a b w = event_ends s end a b w

-- a count takes two bytes at most, so that the size of all rows is a number the code can hold
pub count_small : (r : Entry) (s : List ℕ) → Bytes s → entry_count r s < 65536
unfolding entry_count
count_small Table s z = omega (arith, z 9, z 10)
count_small Channel s z = omega (arith, z 9)
count_small Dimension s z = omega (arith, z (text_end s 9))
count_small Event s z = omega (arith, z 9)

-- ---- rows, one after the other
-- of the room for n rows, the first takes its width
room_step : (w n p : ℕ) → 0 < n → p + w * n ≡ p + w + w * (n - 1)
room_step w zero p h = absurd (omega arith)
room_step w (suc n) p h = rw sub-one (omega (arith, mul-suc w n))

-- what holds while rows are stored: the entries that are left stand, their rows have room, and to store them leads to the answer
pub record RowsLeft (r : Entry) (s : List ℕ) (size : ℕ) (final l : List ℕ) (a p n : ℕ) : Type 0 where
  pub entries : Entries r s n a
  pub same : length l ≡ size
  pub room : p + row_width r * n ≤ size
  pub leads : sets l p (rows_from r s n a) ≡ final

module _ (r : Entry) (s : List ℕ) where
  row_more : (l : List ℕ) (p n a : ℕ) → 0 < n
      → sets (sets l p (row_at r s a)) (p + row_width r) (rows_from r s (n - 1) (next_at r s a)) ≡ sets l p (rows_from r s n a)
  unfolding rows_from
  row_more l p zero a h = absurd (omega arith)
  row_more l p (suc n) a h =
      rw (sub-one, ← row_length r s a) (sym (sets_append (row_at r s a) (rows_from r s n (next_at r s a)) l p))

  row_none : (l : List ℕ) (p n a : ℕ) → n ≡ 0 → l ≡ sets l p (rows_from r s n a)
  unfolding rows_from
  row_none l p n a e = rw e

  -- of those that stand, the first does
  pub entries_first : (n a : ℕ) → 0 < n → Entries r s n a → Entries r s 1 a
  entries_first n a h t = record { stands = reached _ 1 n a t.stands.0 h t.stands.1; begins = t.begins; small = t.small }

  -- the entry that was passed is the first of those that stood
  pub entries_step : (n a : ℕ) → 0 < n → Entries r s n a → Entries r s (n - 1) (next_at r s a)
  entries_step n a h t =
      let m = many_inv _ n a t.stands.0 h t.stands.1 in
      let e = entry_ends r s (length s - 4) a m.0 m.1.0 in
      let f = entry_inside r s (length s - 4) a m.0 m.1.0 in
      record {
        stands = (t.stands.0, subst (λ b. many (walks (format_of r) s (length s - 4)) (n - 1) b ≡ Ok t.stands.0) e m.1.1);
        begins = omega (arith, e, f);
        small = t.small;
      }

  module _ (size : ℕ) (final l : List ℕ) (a p n : ℕ) (left : RowsLeft r s size final l a p n) where
    -- the next row has room
    pub rows_room : 0 < n → p + row_width r ≤ length l
    rows_room h = let e = room_step (row_width r) n p h in omega (arith, e, left.room, left.same)

    pub rows_next : (m : List ℕ) (b w k : ℕ) → 0 < n → m ≡ sets l p (row_at r s a) → b ≡ next_at r s a → w ≡ row_width r → k ≡ n - 1
        → RowsLeft r s size final m b (p + w) k
    rows_next m b w k h put next e i =
        rw (next, e, i)
        (record {
          entries = entries_step n a h left.entries;
          same = ap length put ∙ length-sets l p (row_at r s a) ∙ left.same;
          room = let k = room_step (row_width r) n p h in omega (arith, k, left.room);
          leads = rw put (row_more l p n a h ∙ left.leads);
        })

    pub rows_done : n ≡ 0 → l ≡ final
    rows_done e = row_none l p n a e ∙ left.leads

-- ---- what is lent to the room of the RRT: the first of the dimensions that stand
pub dimension_stands : (s : List ℕ) (n d : ℕ) → 0 < n → Entries Dimension s n d → DimensionStands s d
unfolding format_of
dimension_stands s n d h t = let m = many_inv _ n d t.stands.0 h t.stands.1 in (m.0, m.1.0)

-- ---- whether n rows of w numbers have room, and what the lent list is then
module _ (r : Entry) (s l : List ℕ) (w n : ℕ) (wide : w ≡ row_width r) (counted : n ≡ entry_count r s) where
  pub no_room : length l < w * n → (refused 12 ≡ rows_in r s (length l)) × (l ≡ with_rows r s (rows_in r s (length l)) l)
  unfolding rows_in room_for_rows with_rows
  no_room h =
      let k = rw (wide, counted) at h in
      let e = stops_le 12 (row_width r * entry_count r s) (length l) (resulted (entry_count r s)) {r = refused 12} k refl in
      (e, rw (← e))

  pub enough_room : (m : List ℕ) (a : ℕ) → w * n ≤ length l → a ≡ first_entry r s → m ≡ sets l 0 (rows_from r s n a)
      → (resulted n ≡ rows_in r s (length l)) × (m ≡ with_rows r s (rows_in r s (length l)) l)
  unfolding rows_in room_for_rows with_rows
  enough_room m a h first put =
      let k = rw (wide, counted) at h in
      let e = lets_le 12 (row_width r * entry_count r s) (length l) (resulted (entry_count r s)) {r = resulted n} k (ap resulted counted) in
      (e, rw (← e, ← first) put)

-- ---- what a section that was judged has, before its rows are asked for
largest_small : (r : Entry) → (limits_of (kind_of_entry r)).largest + 3 ≤ 4096
largest_small Table = omega arith
largest_small Channel = omega arith
largest_small Dimension = omega arith
largest_small Event = omega arith

pub judged_rows : (r : Entry) (s : List ℕ) (h : Header) → section_by (only_of (kind_of_entry r)) s ≡ resulted h
    → Begins r s × Entries r s (entry_count r s) (first_entry r s)
unfolding entry_walk
judged_rows r s h judged =
    let b = judged_begins r s h judged in
    let p = (section_sound (kind_of_entry r) s h judged).0 in
    let m = largest_small r in
    (b, record { stands = judged_entries r s h judged; begins = b.first; small = omega (arith, m, p.largest, p.size) })
