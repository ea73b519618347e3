-- SCOPE 5.2: what the records of the shelf mean.
use Rattle.std.specs.Prelude.{ℕ, Bool, false, get_or, eqb}
use Rattle.logic.specs.Loops.{◌&◌}
use Rattle.shelf_state.specs.declared.records.Key.{Key}
use Rattle.shelf_state.specs.declared.records.Asked.{Asked}
use Rattle.shelf_state.specs.declared.records.Edition.{Edition}
use Rattle.shelf_state.specs.declared.records.Watch.{Watch}
use Rattle.shelf_state.specs.declared.records.Place.{Place}
use Rattle.shelf_state.specs.declared.records.Shelf.{Shelf}

-- ---- closed records and free places, as opening finds and closing leaves them
abbrev pub blank_key : Key
blank_key = record { pid = 0; table_id = 0; extension = 0 }

-- nothing has been heard
abbrev pub no_edition : Edition
no_edition = record { heard = false; version = 0; last = 0 }

abbrev pub blank_watch : Watch
blank_watch = record { live = false; key = blank_key; quota = 0; edition = no_edition }

abbrev pub blank_place : Place
blank_place = record { used = false; watch = 0; number = 0; length = 0 }

-- record i, and place i
abbrev pub watch_at : Shelf → ℕ → Watch
watch_at s i = get_or s.watches i blank_watch

abbrev pub place_at : Shelf → ℕ → Place
place_at s i = get_or s.places i blank_place

-- ---- keys
-- the key that a record keeps, as a call names it
abbrev pub asked : Key → Asked
asked k = record { pid = k.pid; table_id = k.table_id; extension = k.extension }

-- two keys are one where PID, table_id and all bits of the extension are equal
unfoldable pub same_key : Asked → Asked → Bool
same_key a b = eqb a.pid b.pid & eqb a.table_id b.table_id & eqb a.extension b.extension

-- an open watch with this key
unfoldable pub is_of : Watch → Asked → Bool
is_of w a = w.live & same_key (asked w.key) a

-- ---- places
-- a place that holds a section of watch w; its section of number n
unfoldable pub holds_for : Place → ℕ → Bool
holds_for p w = p.used & eqb p.watch w

unfoldable pub holds : Place → ℕ → ℕ → Bool
holds p w n = holds_for p w & eqb p.number n
