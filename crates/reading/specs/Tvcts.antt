-- SCOPE 2.2 and 6.2: the fields of a TVCT and of its channel i: 1 to 9, then 13.
use Rattle.std.specs.Prelude.{ℕ, List}
use Rattle.refusal.specs.Outcomes.{Outcome, resulted, after}
use Rattle.kind.specs.Kinds.{limits_of, only_of}
use Rattle.section.specs.Sections.{section_by}
use Rattle.kind.specs.declared.Kind.TheVariants.{Tvct}
use Rattle.tvct.specs.declared.table.Table.{Table}
use Rattle.tvct.specs.Fields.{fields_at}
use Rattle.channel.specs.declared.channel.Channel.{Channel}
use Rattle.channel.specs.Fields.{channel_at}
use Rattle.entry.specs.declared.Entry.TheVariants as entries
use Rattle.entry.specs.Entries.{spot_of, rest_in}

-- ---- the table; its own descriptors stand where all entries are passed
unfoldable pub fields_in : ℕ → List ℕ → Outcome Table
fields_in extension s = after (rest_in entries.Channel s) (λ b. resulted (fields_at s extension (limits_of Tvct).body b))

unfoldable pub fields_of : List ℕ → Outcome Table
fields_of s = after (section_by (only_of Tvct) s) (λ h. fields_in h.extension s)

-- ---- entry i
unfoldable pub entry_of : List ℕ → ℕ → Outcome Channel
entry_of s i = after (spot_of entries.Channel s i) (λ a. resulted (channel_at s a))
