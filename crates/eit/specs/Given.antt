-- SCOPE 2.4, 7.1 and 7.2, and 6, numbers 23 and 9: events that are given to be written, in rows of eight numbers as the rows of an EIT are read. The
-- places of titles and of descriptor lists are parts of one list of bytes.
use Rattle.std.specs.Prelude.{ℕ, zero, suc, ◌+◌, Bool, true, false, List, [], ◌∷◌, length, get_or, ltb, leb, Ok, Err}
use Rattle.logic.specs.Loops.{◌&◌}
use Rattle.bytes_at.specs.Walks.{Walk}
use Rattle.format.specs.Formats.{Filling, walks_all}
use Rattle.format.specs.Values.{One}
use Rattle.part.specs.declared.Part.{Part}
use Rattle.part.specs.Parts.{end_of, bytes_in}
use Rattle.strings.specs.Strings.{text}
use Rattle.descriptor.specs.Descriptors.{descriptors, content_advisory}
use Rattle.eit.specs.Format.{EventHead, EventOf}

-- ---- the row that begins at number a: event_id, start_time, ETM_location, length_in_seconds, and two places
abbrev pub head_given : List ℕ → ℕ → EventHead
head_given rows a = record {
  r1 = 3;
  id = get_or rows a 0;
  start = get_or rows (a + 1) 0;
  r2 = 3;
  etm = get_or rows (a + 2) 0;
  seconds = get_or rows (a + 3) 0;
}

abbrev pub title_given : List ℕ → ℕ → Part
title_given rows a = record { start = get_or rows (a + 4) 0; length = get_or rows (a + 5) 0 }

abbrev pub list_given : List ℕ → ℕ → Part
list_given rows a = record { start = get_or rows (a + 6) 0; length = get_or rows (a + 7) 0 }

-- its event: reserved bits are ones, title and descriptors are bytes as given
unfoldable pub event_given : List ℕ → List ℕ → ℕ → EventOf (List ℕ) (List ℕ)
event_given rows bytes a = record {
  head = head_given rows a;
  title = bytes_in bytes (title_given rows a);
  r = 15;
  descs = bytes_in bytes (list_given rows a);
}

-- n of them, the first of which begins at a
unfoldable pub events_given : List ℕ → List ℕ → ℕ → ℕ → List (EventOf (List ℕ) (List ℕ))
events_given rows bytes zero a = []
events_given rows bytes (suc n) a = event_given rows bytes a ∷ events_given rows bytes n (a + 8)

-- ---- 23: every number of a row has room in its field, and of n rows
unfoldable pub row_fits : List ℕ → ℕ → Bool
row_fits rows a =
    ltb (head_given rows a).id 16384 & ltb (head_given rows a).start 4294967296 & ltb (head_given rows a).etm 4
    & ltb (head_given rows a).seconds 1048576 & ltb (title_given rows a).length 256 & ltb (list_given rows a).length 4096

unfoldable pub rows_fit : List ℕ → ℕ → ℕ → Bool
rows_fit rows zero a = true
rows_fit rows (suc n) a = row_fits rows a & rows_fit rows n (a + 8)

-- ---- 9: a part that lies within the bytes and that a format's walk accepts on its own, as reading would
abbrev pub stands : Walk → Bool
stands (Ok e) = true
stands (Err x) = false

unfoldable pub part_sound : Filling One → List ℕ → Part → Bool
part_sound f bytes p = leb (end_of p) (length bytes) & stands (walks_all f (bytes_in bytes p) (length (bytes_in bytes p)) 0)

unfoldable pub row_sound : List ℕ → List ℕ → ℕ → Bool
row_sound rows bytes a = part_sound text bytes (title_given rows a) & part_sound (descriptors content_advisory) bytes (list_given rows a)

unfoldable pub rows_sound : List ℕ → List ℕ → ℕ → ℕ → Bool
rows_sound rows bytes zero a = true
rows_sound rows bytes (suc n) a = row_sound rows bytes a & rows_sound rows bytes n (a + 8)
