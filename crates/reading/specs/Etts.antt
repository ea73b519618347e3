-- SCOPE 2.5 and 6.2: the fields of an ETT: 1 to 9.
use Rattle.std.specs.Prelude.{ℕ, ◌-◌, length, List}
use Rattle.refusal.specs.Outcomes.{Outcome, resulted, after}
use Rattle.kind.specs.Kinds.{limits_of, only_of}
use Rattle.section.specs.Sections.{section_by}
use Rattle.kind.specs.declared.Kind.TheVariants.{Ett}
use Rattle.ett.specs.declared.table.Table.{Table}
use Rattle.ett.specs.Fields.{fields_at}

unfoldable pub fields_of : List ℕ → Outcome Table
fields_of s = after (section_by (only_of Ett) s) (λ h. resulted (fields_at s h.extension (limits_of Ett).body (length s - 4)))
