-- What lent memory means as a shelf: a list of watch records, a row of numbers for each place, and the area. SCOPE 5.1, 5.2 and 5.10.
use Rattle.std.specs.Prelude.{ℕ, zero, suc, ◌+◌, ◌*◌, ◌/◌, ◌%◌, Bool, not, List, [], ◌∷◌, eqb, ltb, get_or, set, length, replicate}
use Rattle.logic.specs.Choices.{pick}
use Rattle.logic.specs.Loops.{one}
use Rattle.shelf_state.specs.Records.{blank_key, blank_place, blank_watch}
use Rattle.shelf_state.specs.declared.records.Place.{Place}
use Rattle.shelf_state.specs.declared.records.Shelf.{Shelf}
use Rattle.shelf_state.specs.declared.records.Watch.{Watch}
use Rattle.lent_memory.specs.declared.records.LentWatch.{LentWatch}

-- ---- what is lent
pub record LentState : Type 0 where
  pub watches : List LentWatch
  pub places : List ℕ
  pub area : List ℕ

abbrev pub lent : List LentWatch → List ℕ → List ℕ → LentState
lent ws l area = record { watches = ws; places = l; area = area }

-- ---- a watch record: a flag is set where it is not 0
abbrev pub is_on : ℕ → Bool
is_on n = not (eqb n 0)

abbrev pub watch_meant : LentWatch → Watch
watch_meant r = record { live = is_on r.live; key = r.key; quota = r.quota; edition = record { heard = is_on r.heard; version = r.version; last = r.last } }

-- as a call writes it
abbrev pub lent_record : Watch → LentWatch
lent_record w = record { live = one w.live; key = w.key; quota = w.quota; heard = one w.edition.heard; version = w.edition.version; last = w.edition.last }

abbrev pub blank : LentWatch
blank = record { live = 0; key = blank_key; quota = 0; heard = 0; version = 0; last = 0 }

-- the first n watches, closed past the list's end
unfoldable pub watches_meant : ℕ → List LentWatch → List Watch
watches_meant zero ws = []
watches_meant (suc n) [] = blank_watch ∷ watches_meant n []
watches_meant (suc n) (w ∷ ws) = watch_meant w ∷ watches_meant n ws

-- ---- a place: a row of five numbers: used (not 0), watch, number, length, and a time that is not read. Too large a number becomes one
-- that breaks the shelf's rules
abbrev pub row_size : ℕ
row_size = 5

abbrev pub clamp : ℕ → ℕ → ℕ
clamp m x = pick (ltb m x) m x

abbrev pub number_at : List ℕ → ℕ → ℕ
number_at l i = get_or l i 0

abbrev pub place_meant : List ℕ → ℕ → Place
place_meant l i = record {
  used = is_on (number_at l (i * row_size));
  watch = clamp 255 (number_at l (i * row_size + 1));
  number = clamp 255 (number_at l (i * row_size + 2));
  length = clamp 65535 (number_at l (i * row_size + 3));
}

-- how many places n numbers are: none where they are not whole rows
abbrev pub row_count : ℕ → ℕ
row_count n = pick (eqb (n % row_size) 0) (n / row_size) 0

-- the first n rows in a list of places
unfoldable pub places_meant : ℕ → List ℕ → List Place → List Place
places_meant zero l ps = ps
places_meant (suc n) l ps = set (places_meant n l ps) n (place_meant l n)

-- ---- the shelf: more records or places than it can have break its rules by their number
unfoldable pub shelf_in : ℕ → List Watch → List ℕ → Shelf
shelf_in n ws l = record {
  watches = ws;
  records = n;
  places = places_meant (clamp 64 (row_count (length l))) l (replicate 64 blank_place);
  count = row_count (length l);
}

abbrev pub meaning : LentState → Shelf
meaning x = shelf_in (length x.watches) (watches_meant 16 x.watches) x.places
