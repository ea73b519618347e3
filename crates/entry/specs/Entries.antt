-- SCOPE 2 and 6.2: the entries that tables repeat, and where entry i of a section begins: 1 to 9, then 13.
use Rattle.std.specs.Prelude.{ℕ, ◌-◌, List, length, ltb}
use Rattle.bytes_at.specs.Walks.{many, standing, Walk}
use Rattle.refusal.specs.Outcomes.{Outcome, after, or_refuse}
use Rattle.kind.specs.Kinds.{only_of}
use Rattle.format.specs.Formats.{Format, walks}
use Rattle.format.specs.Values.{One}
use Rattle.mgt.specs.Walked.{defined}
use Rattle.mgt.specs.Fields as mgts
use Rattle.channel.specs.Walked.{channel}
use Rattle.tvct.specs.Fields as tvcts
use Rattle.rrt.specs.Walked.{value, dimension}
use Rattle.rrt.specs.Fields as rrts
use Rattle.eit.specs.Walked.{event}
use Rattle.eit.specs.Fields as eits
use Rattle.section.specs.Sections.{section_by}
use Rattle.entry.specs.declared.Entry.{Entry}
use Rattle.entry.specs.declared.Entry.TheVariants.{Table, Channel, Dimension, Event}
use Rattle.entry.specs.Records.{kind_of_entry, start_of}

-- ---- the entries that tables repeat
-- the entry's format
unfoldable pub format_of : Entry → Format One
format_of Table = defined
format_of Channel = channel
format_of Dimension = dimension
format_of Event = event

-- how many entries a section has, and where the first begins
unfoldable pub entry_count : Entry → List ℕ → ℕ
entry_count Table s = mgts.count_at s (start_of Table)
entry_count Channel s = tvcts.count_at s (start_of Channel)
entry_count Dimension s = rrts.count_at s (start_of Dimension)
entry_count Event s = eits.count_at s (start_of Event)

unfoldable pub first_entry : Entry → List ℕ → ℕ
first_entry Table s = mgts.first_at (start_of Table)
first_entry Channel s = tvcts.first_at (start_of Channel)
first_entry Dimension s = rrts.first_at s (start_of Dimension)
first_entry Event s = eits.first_at (start_of Event)

-- ---- where entry i begins
-- entry i begins where the walk past i entries stands
unfoldable pub entry_walk : Entry → List ℕ → ℕ → Walk
entry_walk e s i = many (walks (format_of e) s (length s - 4)) i (first_entry e s)

-- 13 where there is no entry i. In a section that was judged the walk always stands: laws `entry_found` and `rest_found`
unfoldable pub spot_in : Entry → List ℕ → ℕ → Outcome ℕ
spot_in e s i = or_refuse 13 (ltb i (entry_count e s)) (standing (entry_walk e s i))

unfoldable pub spot_of : Entry → List ℕ → ℕ → Outcome ℕ
spot_of e s i = after (section_by (only_of (kind_of_entry e)) s) (λ h. spot_in e s i)

-- where all entries are passed: what follows them begins there
unfoldable pub rest_in : Entry → List ℕ → Outcome ℕ
rest_in e s = standing (entry_walk e s (entry_count e s))

-- value j of an RRT's dimension that begins at d: it begins where the walk past j values stands; 13 where there is none
unfoldable pub value_spot : List ℕ → ℕ → ℕ → Outcome ℕ
value_spot s d j = or_refuse 13 (ltb j (rrts.values_at s d)) (standing (many (walks value s (length s - 4)) j (rrts.first_value_at s d)))
