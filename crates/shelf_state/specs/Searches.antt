-- SCOPE 5.1, 5.2, 5.5 and 5.7, for the calls: the record of a key's watch, the place of a section, and the lowest that are free; a shelf with a record
-- or a place changed, or without a watch's sections; and an empty shelf.
use Rattle.std.specs.Prelude.{ℕ, Bool, not, List, get_or, set, replicate}
use Rattle.logic.specs.Choices.{pick}
use Rattle.logic.specs.Loops.{any, first, sum, count}
use Rattle.logic.specs.Inner.{each}
use Rattle.shelf_state.specs.declared.records.Key.{Key}
use Rattle.shelf_state.specs.declared.records.Asked.{Asked}
use Rattle.shelf_state.specs.declared.records.Watch.{Watch}
use Rattle.shelf_state.specs.declared.records.Place.{Place}
use Rattle.shelf_state.specs.declared.records.Shelf.{Shelf}
use Rattle.shelf_state.specs.Records.{blank_watch, blank_place, watch_at, place_at, is_of, holds_for, holds}
use Rattle.shelf_state.specs.Rules.{quota_of}

-- ---- lists of records, of which a shelf has one of watches and one of places
abbrev pub watch_in : List Watch → ℕ → Watch
watch_in ws i = get_or ws i blank_watch

abbrev pub place_in : List Place → ℕ → Place
place_in ps i = get_or ps i blank_place

-- the places that the first n watches promise; how many of the first k places hold a section of watch w
abbrev pub promised_in : List Watch → ℕ → ℕ
promised_in ws n = sum n (λ i. quota_of (watch_in ws i))

abbrev pub held_among : List Place → ℕ → ℕ → ℕ
held_among ps k w = count k (λ i. holds_for (place_in ps i) w)

-- ---- searches
-- the key that a record keeps of one that is asked
abbrev pub key_of : Asked → Key
key_of a = record { pid = a.pid; table_id = a.table_id; extension = a.extension }

-- a key that is watched, and the record of its watch
abbrev pub watched : Shelf → Asked → Bool
watched s a = any s.records (λ i. is_of (watch_at s i) a)

abbrev pub find_watch : List Watch → ℕ → Asked → ℕ
find_watch ws n a = first n (λ i. is_of (watch_in ws i) a)

abbrev pub watch_of : Shelf → Asked → ℕ
watch_of s a = find_watch s.watches s.records a

-- the lowest record that is not open
abbrev pub first_closed : List Watch → ℕ → ℕ
first_closed ws n = first n (λ i. not (watch_in ws i).live)

abbrev pub free_record : Shelf → ℕ
free_record s = first_closed s.watches s.records

-- watch w holds its section of number n, and the place where
abbrev pub is_held : Shelf → ℕ → ℕ → Bool
is_held s w n = any s.count (λ i. holds (place_at s i) w n)

abbrev pub find_place : List Place → ℕ → ℕ → ℕ → ℕ
find_place ps k w n = first k (λ i. holds (place_in ps i) w n)

abbrev pub place_of : Shelf → ℕ → ℕ → ℕ
place_of s w n = find_place s.places s.count w n

-- the lowest free place
abbrev pub first_free : List Place → ℕ → ℕ
first_free ps k = first k (λ i. not (place_in ps i).used)

abbrev pub free_place : Shelf → ℕ
free_place s = first_free s.places s.count

-- ---- changes
abbrev pub set_watch : Shelf → ℕ → Watch → Shelf
set_watch s i w = record { watches = set s.watches i w; records = s.records; places = s.places; count = s.count }

abbrev pub set_place : Shelf → ℕ → Place → Shelf
set_place s i p = record { watches = s.watches; records = s.records; places = set s.places i p; count = s.count }

-- a place that is free where it was watch w's; the first n places so
unfoldable pub release : ℕ → Place → Place
release w p = pick (holds_for p w) blank_place p

abbrev pub drop_below : Shelf → ℕ → ℕ → Shelf
drop_below s w n = record { watches = s.watches; records = s.records; places = each n (release w) blank_place s.places; count = s.count }

-- the shelf without watch w's sections
abbrev pub dropped : Shelf → ℕ → Shelf
dropped s w = drop_below s w s.count

-- ---- a shelf of these sizes with closed records and free places
unfoldable pub empty_shelf : ℕ → ℕ → Shelf
empty_shelf count records = record { watches = replicate 16 blank_watch; records = records; places = replicate 64 blank_place; count = count }
