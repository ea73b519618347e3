-- The tie of what is read to the format: where an encoding lies, what is answered is what it is the encoding of.
use Prim.Native.Nat.{ℕ, ◌+◌, ◌*◌, ◌%◌, ◌^◌, ◌≤◌}
use mathlib.Core.Path.{◌≡◌, refl, sym, ap, ◌∙◌}
use mathlib.Core.List.{List, [], ◌∷◌, ◌++◌}
use native.Mathlib.Omega.{arith}
use lib.ListN.{length, length-append}
use Rattle.format.proofs.KeptLaws.{laws}
use Rattle.format.specs.Lawful.{Lies}
use Rattle.format.specs.Repeats.{Bytes, encs}
use Rattle.format.specs.Laws.OfBytes.{lies_at, lies_split}
use Rattle.format.specs.Laws.OfValues.{bytes_length}
use Rattle.format.specs.Formats.{walks_all}
use Rattle.format.specs.Values.{Vals, number, bytes_of}
use Rattle.format.specs.Heads.{vals_at}
use Rattle.format.specs.Told.{sized8, sized10, few_not_none, not_none}
use Rattle.format.proofs.SizedLaws.{few_not_none_there, not_none_there}
use Rattle.format.proofs.ListedLaws.{Stand}
use Rattle.part.specs.Parts.{end_of}
use Rattle.strings.specs.Strings.{text, sized_text}
use Rattle.strings.specs.Places.{text_at, text_end}
use Rattle.strings.proofs.TextLaws.{text_there, text_end_there}
use Rattle.descriptor.specs.Descriptors.{descriptors, no_tag}
use Rattle.descriptor.specs.Places.{list10, list_at}
use Rattle.descriptor.proofs.ListLaws.{list10_there}
use Rattle.row.specs.Rows.{part_row}
use Rattle.rrt.specs.declared.dimension.Dimension.{Dimension}
use Rattle.rrt.specs.declared.dimension.ValueTexts.{ValueTexts}
use Rattle.rrt.specs.Format.{scale_head, ValueFields, value_format, DimensionFields, dimension_format}
use Rattle.rrt.specs.Walked.{value, dimension}
use Rattle.rrt.specs.Format.{RrtFields, rrt_format}
use Rattle.rrt.specs.Walked.{dimensions, dimensions_and_list, rrt}
use Rattle.rrt.specs.Fields.{count_at, first_at, fields_at, values_at, first_value_at, dimension_at, texts_at, value_end, dimension_end, dimension_row, texts_row, value_row}
use Rattle.rrt.specs.Values.{part_for, texts_for, value_row_for, dimension_for, row_for, first_value_for, first_for, dimensions_end, fields_for}
use Rattle.rrt.proofs.WalkLaws.{value_ends, dimension_ends}

-- a text that lies with its length, which stands at `at`, and more bytes that lie behind it
record Placed (s : List ℕ) (at : ℕ) (x : text.Val) (more : List ℕ) : Type 0 where
  part : text_at s at ≡ part_for at x
  ends : text_end s at ≡ end_of (part_for at x)
  past : text_end s at ≡ at + length ((sized8 text).enc (record {}, x))
  lies : Lies (text.enc x) s (part_for at x).start
  behind : Lies more s (text_end s at)

module _ (s : List ℕ) (z : Bytes s) where
  placed : (at : ℕ) (x : text.Val) (more : List ℕ) → (sized8 text).Formed (record {}) (record {}, x)
      → Lies ((sized8 text).enc (record {}, x) ++ more) s at → Placed s at x more
  unfolding text_at text_end
  placed at x more o l =
      let i = lies_split ((sized8 text).enc (record {}, x)) more s at l in
      let t = text_there s at z x o i.0 in
      let e = text_end_there s at z x o i.0 in
      record { part = t.0; ends = ap end_of t.0; past = e; lies = t.1; behind = lies_at more s _ _ (sym e) i.1 }

  -- ---- a value
  module _ (a : ℕ) (v : ValueFields) (o : value_format.Formed (record {}) v) (l : Lies (value_format.enc v) s a) where
    short_placed : Placed s a v.short ((sized8 text).enc (record {}, v.long))
    short_placed = placed a v.short ((sized8 text).enc (record {}, v.long)) o.0 l

    long_placed : (text_at s (end_of (part_for a v.short)) ≡ (texts_for a v).long_text)
        × Lies (text.enc v.long) s (texts_for a v).long_text.start
    long_placed =
        text_there s (end_of (part_for a v.short)) z v.long o.1 (lies_at _ s _ _ short_placed.ends short_placed.behind)

    pub value_there : texts_at s a ≡ texts_for a v
    unfolding texts_at
    value_there =
        let p = short_placed.part in
        let q = ap (text_at s) short_placed.ends ∙ long_placed.0 in
        λ i. record { short_text = p i; long_text = q i }

    pub value_row_there : (i j : ℕ) → value_row s i j a ≡ value_row_for i j a v
    unfolding value_row texts_row
    value_row_there i j = ap (λ (t : ValueTexts). (i ∷ j ∷ []) ++ (part_row t.short_text ++ part_row t.long_text)) value_there

    pub value_end_there : value_end s a ≡ a + length (value_format.enc v)
    unfolding value
    value_end_there =
        sym (value_ends s (a + length (value_format.enc v)) a _ ((value_format.law laws (record {})).sound s (a + length (value_format.enc v)) a v o l (omega arith)))

    pub short_lies : text.Formed (record {}) v.short × Lies (text.enc v.short) s (texts_for a v).short_text.start
    short_lies = (o.0.1.1.1, short_placed.lies)

    pub long_lies : text.Formed (record {}) v.long × Lies (text.enc v.long) s (texts_for a v).long_text.start
    long_lies = (o.1.1.1.1, long_placed.1)

  -- ---- a dimension
  module _ (d : ℕ) (x : DimensionFields) (o : dimension_format.Formed (record {}) x) (l : Lies (dimension_format.enc x) s d) where
    -- its scale and its values, as they are told behind its name
    abbrev told : List ℕ
    told = (few_not_none scale_head 4 refl value_format).enc ((x.r, (x.scale, record {})), x.values)

    name_placed : Placed s d x.name told
    name_placed = placed d x.name told o.0 l

    counted : ((vals_at scale_head s (text_end s d) 0 ≡ (x.r, (x.scale, record {}))) × (values_at s d ≡ length x.values))
        × Lies (encs value_format.enc x.values) s (first_value_at s d)
    counted =
        few_not_none_there s z (text_end s d) scale_head 4 refl value_format (x.r, (x.scale, record {})) x.values o.1 name_placed.behind

    pub dimension_there : dimension_at s d ≡ dimension_for d x
    unfolding dimension_at
    dimension_there =
        let n = name_placed.part in
        let c = ap (λ (v : Vals scale_head). v.1.0) counted.0.0 in
        let v = counted.0.1 in
        λ i. record { name = n i; graduated_scale = c i; values = v i }

    pub row_there : dimension_row s d ≡ row_for d x
    unfolding dimension_row
    row_there = ap (λ (y : Dimension). part_row y.name ++ (y.graduated_scale ∷ y.values ∷ [])) dimension_there

    pub end_there : dimension_end s d ≡ d + length (dimension_format.enc x)
    unfolding dimension
    end_there =
        sym (dimension_ends s (d + length (dimension_format.enc x)) d _ ((dimension_format.law laws (record {})).sound s (d + length (dimension_format.enc x)) d x o l (omega arith)))

    pub dimension_name_lies : text.Formed (record {}) x.name × Lies (text.enc x.name) s (dimension_for d x).name.start
    dimension_name_lies = (o.0.1.1.1, name_placed.lies)

    pub first_value_there : first_value_at s d ≡ first_value_for d x
    first_value_there = ap (◌+ 1) name_placed.ends

    pub values_there : (end : ℕ) → d + length (dimension_format.enc x) ≤ end
        → (values_at s d ≡ length x.values) × Stand value_format s end (first_value_at s d) x.values
    values_there end h =
        let p = name_placed.past in
        let n = length-append ((sized8 text).enc (record {}, x.name)) told in
        let t = number scale_head (x.r, (x.scale, record {})) * 2 ^ 4 + length x.values in
        let m = length-append (bytes_of 1 t) (encs value_format.enc x.values) in
        let k = bytes_length 1 t in
        (counted.0.1, record { good = o.1.1.1.1.1; lies = counted.1; inside = omega arith })

-- ---- the whole body
-- the code's promises name the body without the names of its values; its walk is the same
pub same_walk : (s : List ℕ) (end at : ℕ) → walks_all rrt s end at ≡ walks_all rrt_format s end at
unfolding rrt dimensions_and_list dimensions dimension value sized_text list10
same_walk s end at = refl

module _ (s : List ℕ) (z : Bytes s) (at end : ℕ) (b : RrtFields) (o : rrt_format.Formed (record {}) b) (l : Lies (rrt_format.enc b) s at)
    (whole : end ≡ at + length (rrt_format.enc b)) where
  -- the dimensions with their count, and the table's own descriptors with their length
  abbrev listed : List ℕ
  listed = (not_none dimension_format).enc (record {}, b.dimensions)

  abbrev own : List ℕ
  own = (sized10 (descriptors no_tag)).enc ((b.r, record {}), b.descs)

  region_placed : Placed s at b.name (listed ++ own)
  region_placed = placed s z at b.name (listed ++ own) o.0 l

  listed_length : text_end s at + length listed ≡ dimensions_end (first_at s at) b
  listed_length =
      let n = length-append (bytes_of 1 (0 + length b.dimensions)) (encs dimension_format.enc b.dimensions) in
      let k = bytes_length 1 (0 + length b.dimensions) in
      omega arith

  listed_and_own : Lies listed s (text_end s at) × Lies own s (dimensions_end (first_at s at) b)
  listed_and_own =
      let i = lies_split listed own s (text_end s at) region_placed.behind in
      (i.0, lies_at own s _ _ listed_length i.1)

  pub first_there : first_at s at ≡ first_for at b
  first_there = ap (◌+ 1) region_placed.ends

  pub name_lies : text.Formed (record {}) b.name × Lies (text.enc b.name) s (part_for at b.name).start
  name_lies = (o.0.1.1.1, region_placed.lies)

  pub entries_there : (count_at s at ≡ length b.dimensions) × Stand dimension_format s end (first_at s at) b.dimensions
  entries_there =
      let t = not_none_there s z (text_end s at) dimension_format b.dimensions o.1.0 listed_and_own.0 in
      let p = region_placed.past in
      let n = length-append ((sized8 text).enc (record {}, b.name)) (listed ++ own) in
      let m = length-append listed own in
      let k = listed_length in
      (t.0, record { good = o.1.0.1.1.1.1; lies = t.1; inside = omega arith })

  own_placed : (list_at 1024 s (dimensions_end (first_at s at) b) ≡ record { start = dimensions_end (first_at s at) b + 2; length = length ((descriptors no_tag).enc b.descs) })
      × Lies ((descriptors no_tag).enc b.descs) s (dimensions_end (first_at s at) b + 2)
  own_placed = list10_there no_tag s (dimensions_end (first_at s at) b) z b.r b.descs o.1.1 listed_and_own.1

  pub own_lie : (extension : ℕ) → Lies ((descriptors no_tag).enc b.descs) s (fields_for extension at b).descriptors.start
  own_lie extension = lies_at _ s _ _ (ap (λ a. dimensions_end a b + 2) first_there) own_placed.1

  pub fields_there : (extension : ℕ) → fields_at s extension at (dimensions_end (first_at s at) b) ≡ fields_for extension at b
  fields_there extension =
      let f = first_there in
      let n = region_placed.part in
      let c = entries_there.0 in
      let d = own_placed.0
      ∙ (λ i. record { start = dimensions_end (f i) b + 2; length = length ((descriptors no_tag).enc b.descs) }) in
      λ i. record { extension = extension; region = extension % 256; name = n i; dimensions = c i; descriptors = d i }
