-- The tie of what is read to the format: where an encoding lies, what is answered is what it is the encoding of.
use Prim.Native.Nat.{ℕ, ◌+◌}
use mathlib.Core.Path.{◌≡◌, refl, sym, ap}
use mathlib.Core.List.{List, [], ◌∷◌, ◌++◌}
use native.Mathlib.Omega.{arith}
use lib.ListN.{length, length-append}
use Rattle.format.proofs.KeptLaws.{laws}
use Rattle.format.specs.Lawful.{Lies}
use Rattle.format.specs.Repeats.{Bytes, encs}
use Rattle.format.specs.Laws.OfBytes.{lies_at, lies_split}
use Rattle.format.specs.Laws.OfValues.{bytes_length}
use Rattle.format.specs.Formats.{walks_all}
use Rattle.format.specs.Values.{number, bytes_of, behind}
use Rattle.format.specs.Laws.OfNamed.{vals_there}
use Rattle.format.specs.Told.{sized12, counted16}
use Rattle.format.proofs.SizedLaws.{counted16_there}
use Rattle.format.proofs.ListedLaws.{Stand}
use Rattle.descriptor.specs.Descriptors.{descriptors, no_tag}
use Rattle.descriptor.specs.Places.{list12, list_at}
use Rattle.descriptor.proofs.ListLaws.{list12_there}
use Rattle.row.specs.Rows.{part_row}
use Rattle.mgt.specs.Format.{defined_head, head_of, head_in, DefinedFields, defined_format, MgtFields, mgt_format}
use Rattle.mgt.specs.Walked.{defined, tables, mgt}
use Rattle.mgt.specs.Fields.{count_at, first_at, fields_at, head_at, descriptors_at, defined_end, defined_at, numbers_row, defined_row}
use Rattle.mgt.specs.Values.{descriptors_place, defined_for, row_for, tables_end, fields_for}
use Rattle.mgt.proofs.DefinedLaws.{defined_ends}

-- ---- a defined table
module _ (s : List ℕ) (z : Bytes s) (a : ℕ) (x : DefinedFields) (o : defined_format.Formed (record {}) x) (l : Lies (defined_format.enc x) s a) where
  -- its head, and what stands behind it
  head_and_rest : Lies (bytes_of 9 (number defined_head (head_of x.head))) s a
      × Lies ((sized12 (descriptors no_tag)).enc ((x.r, record {}), x.descs)) s (behind defined_head a)
  head_and_rest =
      let p = lies_split (bytes_of 9 (number defined_head (head_of x.head))) _ s a l in
      (p.0, lies_at _ s _ _ (ap (a +◌) (bytes_length 9 _)) p.1)

  head_there : head_at s a ≡ x.head
  head_there = ap head_in (vals_there defined_head 9 refl s a (head_of x.head) o.0 head_and_rest.0)

  -- its descriptors, with their length before them
  descriptors_placed : (list_at 4096 s (behind defined_head a) ≡ descriptors_place a x)
      × Lies ((descriptors no_tag).enc x.descs) s (descriptors_place a x).start
  descriptors_placed = list12_there no_tag s (behind defined_head a) z x.r x.descs o.1 head_and_rest.1

  pub descriptors_lie : Lies ((descriptors no_tag).enc x.descs) s (descriptors_place a x).start
  descriptors_lie = descriptors_placed.1

  descriptors_there : descriptors_at s a ≡ descriptors_place a x
  unfolding descriptors_at
  descriptors_there = descriptors_placed.0

  pub defined_there : defined_at s a ≡ defined_for a x
  unfolding defined_at
  defined_there =
      λ i. record {
        table_type = (head_there i).type;
        pid = (head_there i).pid;
        version = (head_there i).version;
        number_bytes = (head_there i).bytes;
        descriptors = descriptors_there i;
      }

  pub row_there : defined_row s a ≡ row_for a x
  unfolding defined_row numbers_row
  row_there =
      λ i. ((head_there i).type ∷ (head_there i).pid ∷ (head_there i).version ∷ (head_there i).bytes ∷ []) ++ part_row (descriptors_there i)

  pub end_there : defined_end s a ≡ a + length (defined_format.enc x)
  unfolding defined
  end_there =
      sym (defined_ends s (a + length (defined_format.enc x)) a _ ((defined_format.law laws (record {})).sound s _ a x o l (omega arith)))

-- ---- the whole body
-- the code's promises name the body without the names of its values; its walk is the same
pub same_walk : (s : List ℕ) (end at : ℕ) → walks_all mgt s end at ≡ walks_all mgt_format s end at
unfolding mgt tables defined list12
same_walk s end at = refl

module _ (s : List ℕ) (z : Bytes s) (at end : ℕ) (b : MgtFields) (o : mgt_format.Formed (record {}) b) (l : Lies (mgt_format.enc b) s at)
    (whole : end ≡ at + length (mgt_format.enc b)) where
  -- the tables with their count, and the table's own descriptors with their length
  abbrev listed : List ℕ
  listed = (counted16 defined_format).enc (record {}, b.tables)

  abbrev own : List ℕ
  own = (sized12 (descriptors no_tag)).enc ((b.r, record {}), b.descs)

  listed_length : at + length listed ≡ tables_end at b
  listed_length =
      let n = length-append (bytes_of 2 (0 + length b.tables)) (encs defined_format.enc b.tables) in
      let k = bytes_length 2 (0 + length b.tables) in
      omega arith

  listed_and_own : Lies listed s at × Lies own s (tables_end at b)
  listed_and_own = let i = lies_split listed own s at l in (i.0, lies_at own s _ _ listed_length i.1)

  pub entries_there : (count_at s at ≡ length b.tables) × Stand defined_format s end (first_at at) b.tables
  entries_there =
      let t = counted16_there s z at defined_format b.tables o.0 listed_and_own.0 in
      let n = length-append listed own in
      let k = listed_length in
      (t.0, record { good = o.0.1.1.1; lies = t.1; inside = omega arith })

  own_placed : (list_at 4096 s (tables_end at b) ≡ (fields_for at b).descriptors)
      × Lies ((descriptors no_tag).enc b.descs) s (fields_for at b).descriptors.start
  own_placed = list12_there no_tag s (tables_end at b) z b.r b.descs o.1 listed_and_own.1

  pub own_lie : Lies ((descriptors no_tag).enc b.descs) s (fields_for at b).descriptors.start
  own_lie = own_placed.1

  pub fields_there : fields_at s at (tables_end at b) ≡ fields_for at b
  fields_there =
      let c = entries_there.0 in
      let d = own_placed.0 in
      λ i. record { tables_defined = c i; descriptors = d i }
