-- SCOPE 2.3: the body of an RRT, and the values of a dimension and of a value by their names.
use Rattle.std.specs.Prelude.{ℕ, refl, List, [], ◌∷◌}
use Rattle.format.specs.Formats.{Format, Filling, seq, exact, under, under_all}
use Rattle.format.specs.Values.{One, Field, bits, reserved}
use Rattle.format.specs.Told.{sized8, sized10, few_not_none, not_none}
use Rattle.strings.specs.Strings.{text}
use Rattle.descriptor.specs.Descriptors.{descriptors, no_tag}

-- a value's short text and long text, each with a length of 8 bits
pub record ValueFields : Type 0 where
  pub short : text.Val
  pub long : text.Val

abbrev pub value_format : Format One
value_format =
    under (seq (sized8 text) (sized8 text)) {Y = ValueFields} (λ v. ((record {}, v.short), (record {}, v.long)))
    (λ x. record { short = x.0.1; long = x.1.1 }) (λ x. refl) (λ y. refl)

-- r 3, graduated_scale 1, and then the count of values
abbrev pub scale_head : List Field
scale_head = reserved 3 ∷ bits 1 ∷ []

-- the dimension's name with a length of 8 bits; r 3, graduated_scale 1, values 4, not 0; the values
pub record DimensionFields : Type 0 where
  pub name : text.Val
  pub r : ℕ
  pub scale : ℕ
  pub values : List ValueFields

abbrev pub dimension_format : Format One
dimension_format =
    under (seq (sized8 text) (few_not_none scale_head 4 refl value_format)) {Y = DimensionFields}
    (λ d. ((record {}, d.name), ((d.r, (d.scale, record {})), d.values)))
    (λ x. record { name = x.0.1; r = x.1.0.0; scale = x.1.0.1.0; values = x.1.1 })
    (λ x. refl) (λ y. refl)

-- the region name with a length of 8 bits; dimensions 8, not 0, and each of them; r 6, length 10, descriptors
pub record RrtFields : Type 0 where
  pub name : text.Val
  pub dimensions : List DimensionFields
  pub r : ℕ
  pub descs : (descriptors no_tag).Val

abbrev pub rrt_format : Filling One
rrt_format =
    under_all (exact (seq (sized8 text) (seq (not_none dimension_format) (sized10 (descriptors no_tag))))) {Y = RrtFields}
    (λ b. ((record {}, b.name), ((record {}, b.dimensions), ((b.r, record {}), b.descs))))
    (λ x. record { name = x.0.1; dimensions = x.1.0.1; r = x.1.1.0.0; descs = x.1.1.1 })
    (λ x. refl) (λ y. refl)
