-- SCOPE 2.4: the fields of an EIT whose body begins at `at`, and of an event that begins at a. Each is a selection of what stands
-- at the bits that the format gives it.
use Rattle.std.specs.Prelude.{ℕ, ◌+◌, List, [], ◌∷◌, ◌++◌}
use Rattle.bytes_at.specs.Fields.{byte_at}
use Rattle.format.specs.Values.{behind}
use Rattle.format.specs.Heads.{vals_at}
use Rattle.part.specs.declared.Part.{Part}
use Rattle.strings.specs.Places.{text_at, text_end}
use Rattle.descriptor.specs.Places.{list_at, list_end}
use Rattle.row.specs.Rows.{part_row}
use Rattle.eit.specs.declared.event.Title.{Title}
use Rattle.eit.specs.declared.event.Event.{Event}
use Rattle.eit.specs.declared.table.Table.{Table}
use Rattle.eit.specs.Format.{event_head, EventHead, head_in}
use Rattle.eit.specs.Titles.{title_of}

-- ---- the table
-- the count of events, and where the first begins
abbrev pub count_at : List ℕ → ℕ → ℕ
count_at s at = byte_at s at

abbrev pub first_at : ℕ → ℕ
first_at at = at + 1

-- table_id_extension is the source
abbrev pub fields_at : List ℕ → ℕ → ℕ → Table
fields_at s extension at = record { source = extension; count = count_at s at }

-- ---- an event
abbrev pub head_at : List ℕ → ℕ → EventHead
head_at s a = head_in (vals_at event_head s a 0)

-- where the title stands, which comes after the head, and where the descriptors stand, which come after the title
unfoldable pub title_part : List ℕ → ℕ → Part
title_part s a = text_at s (behind event_head a)

unfoldable pub descriptors_at : List ℕ → ℕ → Part
descriptors_at s a = list_at 4096 s (text_end s (behind event_head a))

-- where the event ends
unfoldable pub event_end : List ℕ → ℕ → ℕ
event_end s a = list_end 4096 s (text_end s (behind event_head a))

-- the sort of the title
unfoldable pub title_at : List ℕ → ℕ → Title
title_at s a = title_of s (title_part s a).start (title_part s a).length

unfoldable pub event_at : List ℕ → ℕ → Event
event_at s a = record {
  event_id = (head_at s a).id;
  start_time = (head_at s a).start;
  etm_location = (head_at s a).etm;
  length_in_seconds = (head_at s a).seconds;
  title = title_at s a;
  descriptors = descriptors_at s a;
}

-- ---- the row of an event
-- event_id, start_time, ETM_location, length_in_seconds
unfoldable pub times_row : List ℕ → ℕ → List ℕ
times_row s a = (head_at s a).id ∷ (head_at s a).start ∷ (head_at s a).etm ∷ (head_at s a).seconds ∷ []

-- eight numbers: those; where the title begins, title_length; where the descriptors begin, descriptors_length
unfoldable pub event_row : List ℕ → ℕ → List ℕ
event_row s a = times_row s a ++ (part_row (title_part s a) ++ part_row (descriptors_at s a))
