-- SCOPE 2 and 6.2: the entries of a section by its record, and what is told of entry i.
use Rattle.std.specs.Prelude.{ℕ, ◌+◌, List}
use Rattle.refusal.specs.Outcomes.{Outcome, refused}
use Rattle.format.specs.Formats.{Format}
use Rattle.format.specs.Values.{One}
use Rattle.format.specs.Listed.{nth_of}
use Rattle.mgt.specs.Format.{defined_format}
use Rattle.channel.specs.Format.{channel_format}
use Rattle.rrt.specs.Format.{ValueFields, value_format, DimensionFields, dimension_format}
use Rattle.rrt.specs.Values.{first_for, first_value_for}
use Rattle.eit.specs.Format.{event_format}
use Rattle.kind.specs.declared.Kind.{Kind}
use Rattle.kind.specs.declared.Kind.TheVariants.{Mgt, Tvct, Rrt, Eit}
use Rattle.kind.specs.Kinds.{limits_of}
use Rattle.section.specs.Encoding.{Section}
use Rattle.entry.specs.declared.Entry.{Entry}
use Rattle.entry.specs.declared.Entry.TheVariants.{Table, Channel, Dimension, Event}

-- the kind of table that repeats the entry, and where its body starts
abbrev pub kind_of_entry : Entry → Kind
kind_of_entry Table = Mgt
kind_of_entry Channel = Tvct
kind_of_entry Dimension = Rrt
kind_of_entry Event = Eit

abbrev pub start_of : Entry → ℕ
start_of e = (limits_of (kind_of_entry e)).body

-- the entry's format, with its record as values
abbrev pub record_of : Entry → Format One
record_of Table = defined_format
record_of Channel = channel_format
record_of Dimension = dimension_format
record_of Event = event_format

-- the entries of a section, and where the first begins: behind the count, and of an RRT behind its name too
abbrev pub entries_of : (e : Entry) → Section (kind_of_entry e) → List (record_of e).Val
entries_of Table y = y.body.tables
entries_of Channel y = y.body.channels
entries_of Dimension y = y.body.dimensions
entries_of Event y = y.body.events

abbrev pub begin_of : (e : Entry) → Section (kind_of_entry e) → ℕ
begin_of Table y = start_of Table + 2
begin_of Channel y = start_of Channel + 1
begin_of Dimension y = first_for (start_of Dimension) y.body
begin_of Event y = start_of Event + 1

-- what is told of entry i, by its place and its record; 13 where there is none
abbrev pub of_entry : (e : Entry) {A : Type 0} → (ℕ → (record_of e).Val → Outcome A) → ℕ → Section (kind_of_entry e) → Outcome A
of_entry e told i y = nth_of (record_of e).enc told (refused 13) (begin_of e y) (entries_of e y) i

-- what is told of value j of an RRT's dimension that begins at d
abbrev pub of_value : {A : Type 0} → (ℕ → ValueFields → Outcome A) → ℕ → ℕ → DimensionFields → Outcome A
of_value told j d x = nth_of value_format.enc told (refused 13) (first_value_for d x) x.values j
