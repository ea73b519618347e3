-- SCOPE 2.3: the fields of an RRT whose body begins at `at`, of a dimension that begins at d, and of a value that begins at a.
use Rattle.std.specs.Prelude.{ℕ, zero, suc, ◌+◌, ◌%◌, List, [], ◌∷◌, ◌++◌}
use Rattle.bytes_at.specs.Fields.{byte_at}
use Rattle.format.specs.Heads.{vals_at}
use Rattle.strings.specs.Places.{text_at, text_end}
use Rattle.descriptor.specs.Places.{list_at}
use Rattle.row.specs.Rows.{part_row}
use Rattle.rrt.specs.declared.table.Table.{Table}
use Rattle.rrt.specs.declared.dimension.Dimension.{Dimension}
use Rattle.rrt.specs.declared.dimension.ValueTexts.{ValueTexts}
use Rattle.rrt.specs.Format.{scale_head}

-- ---- the table
-- the count of dimensions stands after the region name; the first dimension begins after it
abbrev pub count_at : List ℕ → ℕ → ℕ
count_at s at = byte_at s (text_end s at)

abbrev pub first_at : List ℕ → ℕ → ℕ
first_at s at = text_end s at + 1

-- the region is the low byte of table_id_extension; the table's own descriptors begin at b, where the walk past all dimensions
-- stands
abbrev pub fields_at : List ℕ → ℕ → ℕ → ℕ → Table
fields_at s extension at b = record {
  extension = extension;
  region = extension % 256;
  name = text_at s at;
  dimensions = count_at s at;
  descriptors = list_at 1024 s b;
}

-- ---- a dimension
-- the count of its values: the low 4 bits of the byte after its name
abbrev pub values_at : List ℕ → ℕ → ℕ
values_at s d = byte_at s (text_end s d) % 16

-- where its first value begins
abbrev pub first_value_at : List ℕ → ℕ → ℕ
first_value_at s d = text_end s d + 1

unfoldable pub dimension_at : List ℕ → ℕ → Dimension
dimension_at s d = record {
  name = text_at s d;
  graduated_scale = (vals_at scale_head s (text_end s d) 0).1.0;
  values = values_at s d;
}

-- ---- a value
unfoldable pub texts_at : List ℕ → ℕ → ValueTexts
texts_at s a = record { short_text = text_at s a; long_text = text_at s (text_end s a) }

-- where it ends: behind its long text
abbrev pub value_end : List ℕ → ℕ → ℕ
value_end s a = text_end s (text_end s a)

-- where n values end, the first of which begins at a
unfoldable pub values_end : List ℕ → ℕ → ℕ → ℕ
values_end s zero a = a
values_end s (suc n) a = values_end s n (value_end s a)

-- where a dimension ends: behind its values
unfoldable pub dimension_end : List ℕ → ℕ → ℕ
dimension_end s d = values_end s (values_at s d) (first_value_at s d)

-- ---- the rows
-- of a dimension four numbers: where its name begins, the name's length, graduated_scale, the number of its values
unfoldable pub dimension_row : List ℕ → ℕ → List ℕ
dimension_row s d = part_row (dimension_at s d).name ++ ((dimension_at s d).graduated_scale ∷ (dimension_at s d).values ∷ [])

-- of a value's texts four: where the short text begins, its length; where the long text begins, its length
unfoldable pub texts_row : List ℕ → ℕ → List ℕ
texts_row s a = part_row (texts_at s a).short_text ++ part_row (texts_at s a).long_text

-- of value j of dimension i six: i, j, and those
unfoldable pub value_row : List ℕ → ℕ → ℕ → ℕ → List ℕ
value_row s i j a = (i ∷ j ∷ []) ++ texts_row s a
