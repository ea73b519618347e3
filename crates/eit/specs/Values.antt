-- SCOPE 2.4: what is answered for a value of the EIT's format, by the record alone, where its encoding lies at a place.
use Rattle.std.specs.Prelude.{ℕ, ◌+◌, ◌≡◌, List, [], ◌∷◌, ◌++◌, length, None, Some}
use Rattle.format.specs.Repeats.{All}
use Rattle.format.specs.Values.{Ones, behind}
use Rattle.part.specs.declared.Part.{Part}
use Rattle.part.specs.Parts.{end_of}
use Rattle.strings.specs.Strings.{text, structure}
use Rattle.descriptor.specs.Descriptors.{descriptors, content_advisory}
use Rattle.row.specs.Rows.{part_row}
use Rattle.eit.specs.declared.event.Title.{Title}
use Rattle.eit.specs.declared.event.Title.TheVariants.{None, NoStrings, Text}
use Rattle.eit.specs.declared.event.Event.{Event}
use Rattle.eit.specs.declared.table.Table.{Table}
use Rattle.eit.specs.Format.{event_head, head_of, EventFields, EitFields}

-- ---- an event that begins at a
-- the sort of a text that stands at a part
unfoldable pub title_for : text.Val → Part → Title
unfolding text structure
title_for None p = None
title_for (Some []) p = NoStrings
title_for (Some (x ∷ xs)) p = Text p

-- where the title stands: after the head and a length of one byte
abbrev pub title_place : ℕ → EventFields → Part
title_place a e = record { start = behind event_head a + 1; length = length (text.enc e.title) }

-- where the descriptors stand: after the title and a length of two bytes
abbrev pub descriptors_place : ℕ → EventFields → Part
descriptors_place a e = record {
  start = end_of (title_place a e) + 2;
  length = length ((descriptors content_advisory).enc e.descs);
}

-- the event
abbrev pub event_for : ℕ → EventFields → Event
event_for a e = record {
  event_id = e.head.id;
  start_time = e.head.start;
  etm_location = e.head.etm;
  length_in_seconds = e.head.seconds;
  title = title_for e.title (title_place a e);
  descriptors = descriptors_place a e;
}

-- its row
abbrev pub row_for : ℕ → EventFields → List ℕ
row_for a e =
    (e.head.id ∷ e.head.start ∷ e.head.etm ∷ e.head.seconds ∷ []) ++ (part_row (title_place a e) ++ part_row (descriptors_place a e))

-- its reserved bits are ones, but for those in its title and its descriptor list
abbrev pub OnesEvent : EventFields → Type 0
OnesEvent e = Ones event_head (head_of e.head) × (e.r ≡ 15)

-- ---- the table
-- its own fields
abbrev pub fields_for : ℕ → EitFields → Table
fields_for extension b = record { source = extension; count = length b.events }

-- the reserved bits of its events are ones, but for those in titles and descriptor lists
abbrev pub OnesEit : EitFields → Type 0
OnesEit b = All OnesEvent b.events
