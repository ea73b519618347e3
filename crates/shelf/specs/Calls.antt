-- SCOPE 3.5, 5.2, 5.7 and 5.8, with the orders of SCOPE 6.2: what each call answers, and the records of the shelf after it. The laws of
-- `shelf_laws` hold these to Views.antt.
use Rattle.std.specs.Prelude.{ℕ, ◌+◌, ◌*◌, Bool, true, false, not, leb}
use Rattle.part.specs.declared.Part.{Part}
use Rattle.refusal.specs.Outcomes.{refused, resulted}
use Rattle.logic.specs.Loops.{any, count}
use Rattle.shelf_state.specs.Records.{no_edition, blank_watch, watch_at, place_at}
use Rattle.shelf_state.specs.Searches.{empty_shelf, key_of, watched, watch_of, free_record, is_held, place_of, set_watch, dropped}
use Rattle.shelf_state.specs.Rules.{promised, in_range, sizes_in_range, obeys}
use Rattle.shelf_state.specs.declared.records.Asked.{Asked}
use Rattle.shelf_state.specs.declared.records.Watch.{Watch}
use Rattle.shelf_state.specs.declared.records.Shelf.{Shelf}
use Rattle.shelf.specs.Answers.{After}
use Rattle.shelf.specs.Views.{Status, status_of}

-- ---- how a call ends
-- by a refusal, the shelf as it was; by its values and a shelf
abbrev pub refused_with : {A : Type 0} → ℕ → Shelf → After A
refused_with n s = record { outcome = refused n; shelf = s }

abbrev pub answered : {A : Type 0} → A → Shelf → After A
answered x s = record { outcome = resulted x; shelf = s }

-- a refusal is given exactly where its test fails and none before it did
unfoldable pub or_refuse_with : {A : Type 0} → ℕ → Shelf → Bool → After A → After A
or_refuse_with n s true r = r
or_refuse_with n s false r = refused_with n s

-- ---- an empty shelf of these sizes; where they are out of range, one of no size, which obeys no rules
unfoldable pub made : ℕ → ℕ → After (Unit {0})
made places records = or_refuse_with 14 (empty_shelf 0 0) (sizes_in_range places records) (answered tt (empty_shelf places records))

-- ---- opening: 14, 15, 19, 20, 21. The lowest free record is taken
abbrev pub fresh : Asked → ℕ → Watch
fresh a q = record { live = true; key = key_of a; quota = q; edition = no_edition }

unfoldable pub opened_in_range : Shelf → Asked → ℕ → After (Unit {0})
opened_in_range s a q =
    or_refuse_with 19 s (not (watched s a))
    (or_refuse_with 20 s (any s.records (λ i. not (watch_at s i).live))
    (or_refuse_with 21 s (leb (promised s + q) s.count)
    (answered tt (set_watch s (free_record s) (fresh a q)))))

-- a shelf, the length of the memory that is lent as its area, the key, the quota
unfoldable pub opened : Shelf → ℕ → Asked → ℕ → After (Unit {0})
opened s area a q =
    or_refuse_with 14 s (obeys s area)
    (or_refuse_with 15 s (in_range a q)
    (opened_in_range s a q))

-- ---- closing: 14, 17. The watch's places are freed
unfoldable pub closed : Shelf → ℕ → Asked → After (Unit {0})
closed s area a =
    or_refuse_with 14 s (obeys s area)
    (or_refuse_with 17 s (watched s a)
    (answered tt (set_watch (dropped s (watch_of s a)) (watch_of s a) blank_watch)))

-- ---- status: 14, 17
-- how many numbers from 0 to last are held
unfoldable pub held_numbers : Shelf → ℕ → ℕ
held_numbers s w = count ((watch_at s w).edition.last + 1) (λ m. is_held s w m)

-- the watch's status
unfoldable pub status_after : Shelf → ℕ → Asked → After Status
status_after s area a =
    or_refuse_with 14 s (obeys s area)
    (or_refuse_with 17 s (watched s a)
    (answered (status_of (watch_at s (watch_of s a)).edition (held_numbers s (watch_of s a))) s))

-- ---- fetching: 14, 17, 22
unfoldable pub fetched_from : Shelf → ℕ → ℕ → After Part
fetched_from s w m =
    or_refuse_with 22 s (is_held s w m)
    (answered (record { start = place_of s w m * 4096; length = (place_at s (place_of s w m)).length }) s)

-- the part of the area where the section of a number stands
unfoldable pub fetched : Shelf → ℕ → Asked → ℕ → After Part
fetched s area a m =
    or_refuse_with 14 s (obeys s area)
    (or_refuse_with 17 s (watched s a)
    (fetched_from s (watch_of s a) m))
