-- SCOPE 4.1: the multiple string structure, and its values by their names. A non-empty text field is filled exactly by one.
use Rattle.std.specs.Prelude.{ℕ, refl, List, [], ◌∷◌, None, Some}
use Rattle.format.specs.Formats.{Format, Filling, opt, under}
use Rattle.format.specs.Values.{One, bits}
use Rattle.format.specs.Told.{raws, counting, counted8, sized8}
use Rattle.format.specs.Laws.OfFull.{counting_full}

-- compression 8, mode 8, number_bytes 8, and the bytes
pub record SegmentFields : Type 0 where
  pub compression : ℕ
  pub mode : ℕ
  pub bytes : List ℕ

unfoldable pub segment : Format One
segment =
    under (raws (bits 8 ∷ bits 8 ∷ []) 2 refl) {Y = SegmentFields} (λ g. ((g.compression, (g.mode, record {})), g.bytes))
    (λ x. record { compression = x.0.0; mode = x.0.1.0; bytes = x.1 }) (λ x. refl) (λ y. refl)

-- language 24, number_segments 8, and the segments
pub record StringFields : Type 0 where
  pub language : ℕ
  pub segments : List SegmentFields

unfoldable pub string : Format One
unfolding segment
string =
    under (counting (bits 24 ∷ []) 3 refl segment) {Y = StringFields} (λ g. ((g.language, record {}), g.segments))
    (λ x. record { language = x.0.0; segments = x.1 }) (λ x. refl) (λ y. refl)

-- number_strings 8, and the strings
unfoldable pub structure : Format One
unfolding string
structure =
    under (counted8 string) {Y = List StringFields} (λ ss. (record {}, ss)) (λ x. x.1) (λ x. refl) (λ y. refl)

-- a text field: nothing, or one structure that fills it
unfoldable pub text : Filling One
unfolding structure string
text = opt structure (λ ss o. counting_full [] 0 refl string (record {}, ss) o)

-- the strings of a text; nothing has none
unfoldable pub strings_of : text.Val → List StringFields
unfolding text structure
strings_of None = []
strings_of (Some ss) = ss

-- a structure, as the text that it is
unfoldable pub as_text : structure.Val → text.Val
unfolding text
as_text x = Some x

-- a length of 8 bits and a text of that length
unfoldable pub sized_text : Format One
sized_text = sized8 text
