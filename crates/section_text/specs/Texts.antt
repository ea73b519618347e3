-- SCOPE 6.2: a text asked of a section: 1 to 9, 13 for its entry, then the text's own order over the field's bytes.
use Rattle.std.specs.Prelude.{ℕ, List, length}
use Rattle.refusal.specs.Outcomes.{Outcome, resulted, after}
use Rattle.part.specs.Parts.{bytes_in}
use Rattle.text.specs.declared.answer.Heading.{Heading}
use Rattle.text.specs.Strings.{string_count, string_units, string_replaced, string_heading}
use Rattle.text.specs.Replaced.{told_from}
use Rattle.section_text.specs.declared.field.Which.{Which}
use Rattle.section_text.specs.Fields.{field_of}

-- the number of strings
unfoldable pub text_count : List ℕ → Which → Outcome ℕ
text_count s w = after (field_of s w) (λ p. resulted (string_count (bytes_in s p) (length (bytes_in s p)) 0))

-- language and number_segments of string k
unfoldable pub text_heading : List ℕ → Which → ℕ → Outcome Heading
text_heading s w k = after (field_of s w) (λ p. string_heading (bytes_in s p) (length (bytes_in s p)) 0 k)

-- the units of string k
unfoldable pub text_units : List ℕ → Which → ℕ → Outcome (List ℕ)
text_units s w k = after (field_of s w) (λ p. string_units (bytes_in s p) (length (bytes_in s p)) 0 k)

-- how many segments of string k are replaced
unfoldable pub text_replaced : List ℕ → Which → ℕ → ℕ
text_replaced s w k = told_from (field_of s w) (λ p. string_replaced (bytes_in s p) (length (bytes_in s p)) 0 k)
