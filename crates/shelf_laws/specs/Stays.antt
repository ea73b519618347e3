-- SCOPE 5.4 to 5.8 and 12.3, record by record: what each call that changes a shelf leaves of all else; and that a fetched part lies within the area.
use Rattle.std.specs.Prelude.{ℕ, ◌+◌, ◌*◌, ◌≤◌, ◌<◌, ◌≡◌, false, List, ◌⊎◌, get_or, length}
use Rattle.part.specs.declared.Part.{Part}
use Rattle.refusal.specs.Outcomes.{resulted}
use Rattle.shelf_state.specs.Records.{holds_for, place_at, watch_at}
use Rattle.shelf_state.specs.Searches.{free_record, watch_of}
use Rattle.shelf_state.specs.declared.records.Asked.{Asked}
use Rattle.shelf_state.specs.declared.records.Shelf.{Shelf}
use Rattle.shelf.specs.Calls.{closed, fetched, opened}
use Rattle.shelf.specs.Delivery.{area_after, delivering}
use Rattle.shelf.specs.Views.{key_in}

-- ---- of a shelf that is changed, all else stays: sizes, other watches, other places, and entries beyond the sizes in use
pub record Others (s t : Shelf) (w : ℕ) : Type 0 where
  pub records_same : t.records ≡ s.records
  pub count_same : t.count ≡ s.count
  pub watches_stay : (i : ℕ) → (i ≡ w → ⊥) → watch_at t i ≡ watch_at s i

pub record OpeningKeeps (s t : Shelf) (w : ℕ) : Type 0 where
  pub others : Others s t w
  pub inside : w < s.records
  pub places_stay : (i : ℕ) → place_at t i ≡ place_at s i

abbrev pub OpeningStays : Type 0
OpeningStays = (s : Shelf) (area : ℕ) (a : Asked) (q : ℕ) → (opened s area a q).outcome ≡ resulted tt → OpeningKeeps s (opened s area a q).shelf (free_record s)

pub record ClosingKeeps (s t : Shelf) (w : ℕ) : Type 0 where
  pub others : Others s t w
  pub inside : w < s.records
  pub places_stay : (i : ℕ) → (s.count ≤ i) ⊎ (holds_for (place_at s i) w ≡ false) → place_at t i ≡ place_at s i

abbrev pub ClosingStays : Type 0
ClosingStays = (s : Shelf) (area : ℕ) (a : Asked) → (closed s area a).outcome ≡ resulted tt → ClosingKeeps s (closed s area a).shelf (watch_of s a)

-- of a section of watch w that takes place i
pub record DeliveryKeeps (s t : Shelf) (w i : ℕ) (before after b : List ℕ) : Type 0 where
  pub others : Others s t w
  pub inside : w < s.records
  pub place_inside : i < s.count
  pub places_stay : (j : ℕ) → (j ≡ i → ⊥) → (s.count ≤ j) ⊎ (holds_for (place_at s j) w ≡ false) → place_at t j ≡ place_at s j
  pub size_same : length after ≡ length before
  pub bytes_stay : (j : ℕ) → (j < i * 4096) ⊎ (i * 4096 + length b ≤ j) → get_or after j 0 ≡ get_or before j 0

abbrev pub DeliveryStays : Type 0
DeliveryStays = (s : Shelf) (l : List ℕ) (pid : ℕ) (b : List ℕ) (i : ℕ) → (delivering s (length l) pid b).outcome ≡ resulted i
    → DeliveryKeeps s (delivering s (length l) pid b).shelf (watch_of s (key_in pid b)) i l (area_after l b (delivering s (length l) pid b).outcome) b

-- ---- a fetched part lies whole within the area
abbrev pub FetchedInside : Type 0
FetchedInside = (s : Shelf) (area : ℕ) (a : Asked) (m : ℕ) (p : Part) → (fetched s area a m).outcome ≡ resulted p → p.start + p.length ≤ area
