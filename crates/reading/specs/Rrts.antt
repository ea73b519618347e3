-- SCOPE 2.3 and 6.2: the fields of an RRT and of its dimension i: 1 to 9, then 13.
use Rattle.std.specs.Prelude.{ℕ, List}
use Rattle.refusal.specs.Outcomes.{Outcome, resulted, after}
use Rattle.kind.specs.Kinds.{limits_of, only_of}
use Rattle.section.specs.Sections.{section_by}
use Rattle.kind.specs.declared.Kind.TheVariants.{Rrt}
use Rattle.rrt.specs.declared.table.Table.{Table}
use Rattle.rrt.specs.declared.dimension.Dimension.{Dimension}
use Rattle.rrt.specs.declared.dimension.ValueTexts.{ValueTexts}
use Rattle.rrt.specs.Fields.{fields_at, dimension_at, texts_at}
use Rattle.entry.specs.declared.Entry.TheVariants as entries
use Rattle.entry.specs.Entries.{spot_of, rest_in, value_spot}

-- ---- the table; its own descriptors stand where all entries are passed
unfoldable pub fields_in : ℕ → List ℕ → Outcome Table
fields_in extension s = after (rest_in entries.Dimension s) (λ b. resulted (fields_at s extension (limits_of Rrt).body b))

unfoldable pub fields_of : List ℕ → Outcome Table
fields_of s = after (section_by (only_of Rrt) s) (λ h. fields_in h.extension s)

-- ---- entry i
unfoldable pub entry_of : List ℕ → ℕ → Outcome Dimension
entry_of s i = after (spot_of entries.Dimension s i) (λ a. resulted (dimension_at s a))

-- ---- value j of dimension i
unfoldable pub value_of : List ℕ → ℕ → ℕ → Outcome ValueTexts
value_of s i j = after (spot_of entries.Dimension s i) (λ d. after (value_spot s d j) (λ a. resulted (texts_at s a)))
