-- SCOPE 2.1 and 6.2: the fields of an MGT and of its defined table i: 1 to 9, then 13.
use Rattle.std.specs.Prelude.{ℕ, List}
use Rattle.refusal.specs.Outcomes.{Outcome, resulted, after}
use Rattle.kind.specs.Kinds.{limits_of, only_of}
use Rattle.section.specs.Sections.{section_by}
use Rattle.kind.specs.declared.Kind.TheVariants.{Mgt}
use Rattle.mgt.specs.declared.table.Table.{Table}
use Rattle.mgt.specs.Fields.{fields_at}
use Rattle.mgt.specs.declared.defined.Defined.{Defined}
use Rattle.mgt.specs.Fields.{defined_at}
use Rattle.entry.specs.declared.Entry.TheVariants as entries
use Rattle.entry.specs.Entries.{spot_of, rest_in}

-- ---- the table; its own descriptors stand where all entries are passed
unfoldable pub fields_in : List ℕ → Outcome Table
fields_in s = after (rest_in entries.Table s) (λ b. resulted (fields_at s (limits_of Mgt).body b))

unfoldable pub fields_of : List ℕ → Outcome Table
fields_of s = after (section_by (only_of Mgt) s) (λ h. fields_in s)

-- ---- entry i
unfoldable pub entry_of : List ℕ → ℕ → Outcome Defined
entry_of s i = after (spot_of entries.Table s i) (λ a. resulted (defined_at s a))
