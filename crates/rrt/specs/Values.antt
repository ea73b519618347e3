-- SCOPE 2.3: what is answered for a value of the RRT's format, by the record alone, where its encoding lies at a place.
use Rattle.std.specs.Prelude.{ℕ, ◌+◌, ◌%◌, List, [], ◌∷◌, ◌++◌, length}
use Rattle.format.specs.Repeats.{encs}
use Rattle.part.specs.declared.Part.{Part}
use Rattle.part.specs.Parts.{end_of}
use Rattle.strings.specs.Strings.{text}
use Rattle.descriptor.specs.Descriptors.{descriptors, no_tag}
use Rattle.row.specs.Rows.{part_row}
use Rattle.rrt.specs.declared.table.Table.{Table}
use Rattle.rrt.specs.declared.dimension.Dimension.{Dimension}
use Rattle.rrt.specs.declared.dimension.ValueTexts.{ValueTexts}
use Rattle.rrt.specs.Format.{ValueFields, DimensionFields, dimension_format, RrtFields}

-- where a text stands whose length of one byte stands at `at`
abbrev pub part_for : ℕ → text.Val → Part
part_for at x = record { start = at + 1; length = length (text.enc x) }

-- ---- a value that begins at a: its short text, and its long text behind that
abbrev pub texts_for : ℕ → ValueFields → ValueTexts
texts_for a v = record { short_text = part_for a v.short; long_text = part_for (end_of (part_for a v.short)) v.long }

-- its row, where it is value j of dimension i
abbrev pub value_row_for : ℕ → ℕ → ℕ → ValueFields → List ℕ
value_row_for i j a v = (i ∷ j ∷ []) ++ (part_row (part_for a v.short) ++ part_row (part_for (end_of (part_for a v.short)) v.long))

-- ---- a dimension that begins at d
abbrev pub dimension_for : ℕ → DimensionFields → Dimension
dimension_for d x = record { name = part_for d x.name; graduated_scale = x.scale; values = length x.values }

-- its row
abbrev pub row_for : ℕ → DimensionFields → List ℕ
row_for d x = part_row (part_for d x.name) ++ (x.scale ∷ length x.values ∷ [])

-- where its first value begins: behind its name and the byte of scale and count
abbrev pub first_value_for : ℕ → DimensionFields → ℕ
first_value_for d x = end_of (part_for d x.name) + 1

-- ---- the table, whose body begins at `at`
-- where its first dimension begins: behind the region name and the count
abbrev pub first_for : ℕ → RrtFields → ℕ
first_for at b = end_of (part_for at b.name) + 1

-- where its dimensions end, the first of which begins at a
abbrev pub dimensions_end : ℕ → RrtFields → ℕ
dimensions_end a b = a + length (encs dimension_format.enc b.dimensions)

-- its own fields: the descriptors stand behind the dimensions, after a length of two bytes
abbrev pub fields_for : ℕ → ℕ → RrtFields → Table
fields_for extension at b = record {
  extension = extension;
  region = extension % 256;
  name = part_for at b.name;
  dimensions = length b.dimensions;
  descriptors = record { start = dimensions_end (first_for at b) b + 2; length = length ((descriptors no_tag).enc b.descs) };
}
