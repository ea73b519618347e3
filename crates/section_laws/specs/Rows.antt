-- SCOPE 2 to 4 and 12.4: what is told of a record to the questions for all entries, all values or all titles at once, and the statements of
-- the calls that answer them: how many there are, or 12 where a lent list has no room, and what that list holds afterwards.
use Rattle.std.specs.Prelude.{ℕ, ◌+◌, ◌≡◌, List, [], ◌∷◌, ◌++◌, length}
use Rattle.std.proofs.lemmas.List.Edits.{sets}
use Rattle.refusal.specs.Outcomes.{Outcome, refused, resulted}
use Rattle.kind.specs.declared.Kind.{Kind}
use Rattle.kind.specs.declared.Kind.TheVariants.{Rrt, Eit}
use Rattle.kind.specs.Kinds.{only_of}
use Rattle.format.specs.Listed.{all_of}
use Rattle.mgt.specs.Values as mgts
use Rattle.channel.specs.Values as channels
use Rattle.rrt.specs.Format.{value_format, DimensionFields, dimension_format}
use Rattle.rrt.specs.Values as rrts
use Rattle.eit.specs.Values as eits
use Rattle.section.specs.Sections.{section_by}
use Rattle.section.specs.Encoding.{Section, encode, WellFormed}
use Rattle.entry.specs.declared.Entry.TheVariants.{Dimension}
use Rattle.entry.specs.Records.{kind_of_entry, record_of, entries_of, begin_of}
use Rattle.entry.specs.declared.Entry.{Entry}
use Rattle.entry.specs.declared.Entry.TheVariants as row
use Rattle.rows.specs.Rows.{row_width, room_for_rows, rows_of, with_rows}
use Rattle.rows.specs.Values.{value_rows_of, with_value_rows}
use Rattle.titles.specs.Titles.{titles_of, with_title_rows, with_units}
use Rattle.titles.specs.declared.Counts.{Counts}
use Rattle.section_laws.specs.Titled.{title_units, title_rows, titles_told}
use Rattle.section_laws.specs.Accepted.{Reads}

-- ---- the rows of all entries: their number, or 12 where there is no room, and a lent list after they were stored
abbrev pub row_told : (r : Entry) → ℕ → (record_of r).Val → List ℕ
row_told row.Table a x = mgts.row_for a x
row_told row.Channel a x = channels.row_for a x
row_told row.Dimension d x = rrts.row_for d x
row_told row.Event a x = eits.row_for a x

abbrev pub rows_told : (r : Entry) → Section (kind_of_entry r) → List ℕ
rows_told r y = all_of (record_of r).enc (row_told r) (begin_of r y) (entries_of r y)

abbrev pub count_told : (r : Entry) → ℕ → Section (kind_of_entry r) → Outcome ℕ
count_told r room y = room_for_rows (row_width r) (length (entries_of r y)) room

unfoldable pub stored_rows : {A : Type 0} → List ℕ → List ℕ → Outcome A → List ℕ
stored_rows l rows (refused n) = l
stored_rows l rows (resulted n) = sets l 0 rows

-- ---- the rows of all values of an RRT, of six numbers each
-- what is told of values that stand one after the other, the first of which is number k and stands at a: by number, place and value
unfoldable pub numbered : {X : Type 0} → (X → List ℕ) → (ℕ → ℕ → X → List ℕ) → ℕ → ℕ → List X → List ℕ
numbered enc tell k a [] = []
numbered enc tell k a (x ∷ xs) = tell k a x ++ numbered enc tell (k + 1) (a + length (enc x)) xs

-- the rows of the values of dimension i, which begins at d
abbrev pub dimension_rows_told : ℕ → ℕ → DimensionFields → List ℕ
dimension_rows_told i d x = numbered value_format.enc (rrts.value_row_for i) 0 (rrts.first_value_for d x) x.values

abbrev pub value_rows_told : Section Rrt → List ℕ
value_rows_told y = numbered dimension_format.enc dimension_rows_told 0 (begin_of Dimension y) (entries_of Dimension y)

-- their number
unfoldable pub values_in : List DimensionFields → ℕ
values_in [] = 0
values_in (x ∷ xs) = length x.values + values_in xs

abbrev pub value_count_told : ℕ → Section Rrt → Outcome ℕ
value_count_told room y = room_for_rows 6 (values_in (entries_of Dimension y)) room

-- ---- the statements
-- a writer into a lent list: what it leaves there is what is told, and a section that is refused leaves it as it was
pub record Stores (k : Kind) (writer : List ℕ → List ℕ → List ℕ) (tell : List ℕ → Section k → List ℕ) : Type 0 where
  pub stores : (l : List ℕ) (y : Section k) → WellFormed k y → writer l (encode y) ≡ tell l y
  pub keeps : (l s : List ℕ) (n : ℕ) → section_by (only_of k) s ≡ refused n → writer l s ≡ l

-- what is asked: of so much room in a lent list, or of the list itself as it was before (`before`); the section comes last
pub record RowLibrary : Type 0 where
  pub row_count : Entry → (room : ℕ) → List ℕ → Outcome ℕ
  pub rows : Entry → (before : List ℕ) → List ℕ → List ℕ
  pub value_row_count : (room : ℕ) → List ℕ → Outcome ℕ
  pub value_rows : (before : List ℕ) → List ℕ → List ℕ
  pub title_counts : (rows units : ℕ) → List ℕ → Outcome Counts
  pub title_rows : (units : ℕ) → (before : List ℕ) → List ℕ → List ℕ
  pub title_units : (rows : ℕ) → (before : List ℕ) → List ℕ → List ℕ

-- and what is promised
pub record KeepsRows (l : RowLibrary) : Type 0 where
  pub row_count : (r : Entry) (room : ℕ) → Reads (kind_of_entry r) (l.row_count r room) (count_told r room)
  pub rows : (r : Entry) → Stores (kind_of_entry r) (l.rows r) (λ out y. stored_rows out (rows_told r y) (count_told r (length out) y))
  pub value_row_count : (room : ℕ) → Reads Rrt (l.value_row_count room) (value_count_told room)
  pub value_rows : Stores Rrt l.value_rows (λ out y. stored_rows out (value_rows_told y) (value_count_told (length out) y))
  pub title_counts : (rows units : ℕ) → Reads Eit (l.title_counts rows units) (titles_told rows units)
  pub title_rows : (units : ℕ) → Stores Eit (l.title_rows units) (λ out y. stored_rows out (title_rows y) (titles_told (length out) units y))
  pub title_units : (rows : ℕ) → Stores Eit (l.title_units rows) (λ out y. stored_rows out (title_units y) (titles_told rows (length out) y))

-- ---- which definition is which: those that the promises of the calls cite
abbrev pub ours_rows : RowLibrary
ours_rows = record {
  row_count = λ r room s. rows_of r s room;
  rows = λ r l s. with_rows r s (rows_of r s (length l)) l;
  value_row_count = λ room s. value_rows_of s room;
  value_rows = λ l s. with_value_rows s (value_rows_of s (length l)) l;
  title_counts = λ rows units s. titles_of s rows units;
  title_rows = λ units l s. with_title_rows s (titles_of s (length l) units) l;
  title_units = λ rows l s. with_units s (titles_of s rows (length l)) l;
}
