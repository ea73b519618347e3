-- SCOPE 5.5 and 5.6: what a delivered section does to the records of the shelf and to its area. SCOPE 6.2, its order: 14, 15, 1 to 9, 16, 17, 18. The laws
-- of `shelf_laws` hold this to Views.antt.
use Rattle.std.specs.Prelude.{ℕ, ◌+◌, ◌*◌, true, not, List, leb, eqb, length}
use Rattle.std.proofs.Math.Seq.{paste}
use Rattle.logic.specs.Choices.{pick}
use Rattle.logic.specs.Loops.{any}
use Rattle.refusal.specs.Outcomes.{Outcome, refused, resulted, or_refuse}
use Rattle.section.specs.declared.header.Header.{Header}
use Rattle.shelf_state.specs.Records.{watch_at, is_of, holds}
use Rattle.shelf_state.specs.Searches.{watch_in, place_in, find_watch, find_place, first_free, set_watch, set_place, dropped}
use Rattle.shelf_state.specs.Rules.{obeys}
use Rattle.shelf_state.specs.declared.records.Asked.{Asked}
use Rattle.shelf_state.specs.declared.records.Watch.{Watch}
use Rattle.shelf_state.specs.declared.records.Place.{Place}
use Rattle.shelf_state.specs.declared.records.Shelf.{Shelf}
use Rattle.shelf.specs.Answers.{After}
use Rattle.shelf.specs.Calls.{refused_with, answered, or_refuse_with}
use Rattle.shelf.specs.Views.{judged, key_in, edition_of, same_edition}

-- ---- the watch that a section goes to: 16, 17, 18
unfoldable pub owner_in : List Watch → ℕ → Asked → Header → Outcome ℕ
owner_in ws n a h =
    or_refuse 16 (not (eqb h.current 0))
    (or_refuse 17 (any n (λ i. is_of (watch_in ws i) a))
    (or_refuse 18 (leb (h.last + 1) (watch_in ws (find_watch ws n a)).quota)
    (resulted (find_watch ws n a))))

-- ---- the edition
abbrev pub hearing : Watch → Header → Watch
hearing w h = record { live = w.live; key = w.key; quota = w.quota; edition = edition_of h }

-- if the edition differs, all the watch's sections are dropped first
unfoldable pub edited : Shelf → ℕ → Header → Shelf
edited s w h = pick (same_edition (watch_at s w).edition h) s (set_watch (dropped s w) w (hearing (watch_at s w) h))

-- ---- the place: of the section with its number, or the lowest free one
unfoldable pub place_among : List Place → ℕ → ℕ → ℕ → ℕ
place_among ps k w m = pick (any k (λ i. holds (place_in ps i) w m)) (find_place ps k w m) (first_free ps k)

abbrev pub place_for : Shelf → ℕ → ℕ → ℕ
place_for s w m = place_among s.places s.count w m

abbrev pub keeping : ℕ → ℕ → ℕ → Place
keeping w m n = record { used = true; watch = w; number = m; length = n }

abbrev pub stored : Shelf → ℕ → ℕ → ℕ → Shelf
stored s w m n = set_place s (place_for s w m) (keeping w m n)

-- ---- the shelf after a section of n bytes, and the place where it stands
unfoldable pub received_at : Shelf → ℕ → Header → ℕ → After ℕ
received_at s w h n = answered (place_for (edited s w h) w h.number) (stored (edited s w h) w h.number n)

unfoldable pub for_owner : Shelf → Header → ℕ → Outcome ℕ → After ℕ
for_owner s h n (refused k) = refused_with k s
for_owner s h n (resulted w) = received_at s w h n

unfoldable pub received : Shelf → Asked → Header → ℕ → After ℕ
received s a h n = for_owner s h n (owner_in s.watches s.records a h)

-- 1 to 9, as the judge says
unfoldable pub by_judge : Shelf → ℕ → List ℕ → Outcome Header → After ℕ
by_judge s pid b (refused k) = refused_with k s
by_judge s pid b (resulted h) = received s (key_in pid b) h (length b)

-- what arrives, on a shelf that obeys its rules
unfoldable pub arriving : Shelf → ℕ → List ℕ → After ℕ
arriving s pid b = or_refuse_with 15 s (leb pid 8191) (by_judge s pid b (judged b))

-- a shelf, the length of the memory that is lent as its area, the PID, the section's bytes: the place that the section takes
unfoldable pub delivering : Shelf → ℕ → ℕ → List ℕ → After ℕ
delivering s area pid b = or_refuse_with 14 s (obeys s area) (arriving s pid b)

-- ---- the answer tells no place
abbrev pub done : Outcome ℕ → Outcome (Unit {0})
done (refused k) = refused k
done (resulted i) = resulted tt

abbrev pub quiet : After ℕ → After (Unit {0})
quiet r = record { outcome = done r.outcome; shelf = r.shelf }

-- what `delivering` answers and leaves, without the place
unfoldable pub delivered : Shelf → ℕ → ℕ → List ℕ → After (Unit {0})
delivered s area pid b = quiet (delivering s area pid b)

-- ---- the area with the section's bytes at the start of its place; as it was where the section is refused
unfoldable pub area_after : List ℕ → List ℕ → Outcome ℕ → List ℕ
area_after area b (refused k) = area
area_after area b (resulted i) = paste area (i * 4096) b (length b)
