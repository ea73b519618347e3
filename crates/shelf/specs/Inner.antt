-- What stands behind the calls: of a watch by its record, what it lacks, the bytes that it keeps, and whether they can be read; and what the
-- functions under a call are lent and hand on. SCOPE 5.3 to 5.5.
use Rattle.std.specs.Prelude.{ℕ, ◌+◌, ◌≤◌, ◌<◌, ◌≡◌, Bool, true, not, List, [], leb}
use Rattle.logic.specs.Choices.{pick}
use Rattle.logic.specs.Loops.{any, first}
use Rattle.part.specs.declared.Part.{Part}
use Rattle.refusal.specs.Outcomes.{Outcome, refused, resulted, after, or_refuse}
use Rattle.section.specs.declared.header.Header.{Header}
use Rattle.shelf_state.specs.Records.{place_at, watch_at}
use Rattle.shelf_state.specs.Searches.{free_record, is_held, place_of, watch_of, watched}
use Rattle.shelf_state.specs.Rules.{in_range, obeys, promised}
use Rattle.shelf_state.specs.declared.records.Asked.{Asked}
use Rattle.shelf_state.specs.declared.records.Edition.{Edition}
use Rattle.shelf_state.specs.declared.records.Shelf.{Shelf}
use Rattle.shelf.specs.Steps.{is_result}
use Rattle.shelf.specs.Answers.{After}
use Rattle.shelf.specs.Calls.{fetched_from, held_numbers, refused_with}
use Rattle.shelf.specs.Delivery.{owner_in}
use Rattle.shelf.specs.Views.{Status, bytes_at, judged, key_in, same_edition, status_of}
use Rattle.shelf.specs.declared.delivery.Owner.{Owner}

-- ---- a watch
-- the lowest number up to last that is not held; last + 1 where none is missing
unfoldable pub lowest_missing : Shelf → ℕ → ℕ
lowest_missing s w = first ((watch_at s w).edition.last + 1) (λ m. not (is_held s w m))

-- the bytes that are kept under a number; none where it is not held
unfoldable pub kept_bytes : Shelf → List ℕ → ℕ → ℕ → List ℕ
kept_bytes s area w m = pick (is_held s w m) (bytes_at area (place_of s w m) (place_at s (place_of s w m)).length) []

-- the section is held and passes the tests 1 to 9
unfoldable pub readable_in : Shelf → List ℕ → ℕ → ℕ → Bool
readable_in s area w m = is_result (judged (kept_bytes s area w m))

-- ---- a call whose refusals leave the shelf as it was
abbrev pub carried : {A B : Type 0} → Shelf → (A → After B) → Outcome A → After B
carried s k (refused n) = refused_with n s
carried s k (resulted a) = k a

-- 14 and 17, or the watch of the key
unfoldable pub known : Shelf → ℕ → Asked → Outcome ℕ
known s area a = or_refuse 14 (obeys s area) (or_refuse 17 (watched s a) (resulted (watch_of s a)))

-- 14, 15, 19, 20 and 21, or the record that is opened
unfoldable pub opening : Shelf → ℕ → Asked → ℕ → Outcome ℕ
opening s area a q =
    or_refuse 14 (obeys s area)
    (or_refuse 15 (in_range a q)
    (or_refuse 19 (not (watched s a))
    (or_refuse 20 (any s.records (λ i. not (watch_at s i).live))
    (or_refuse 21 (leb (promised s + q) s.count)
    (resulted (free_record s))))))

-- what a status and a fetch answer
abbrev pub asking : Shelf → ℕ → Asked → Outcome Status
asking s area a = after (known s area a) (λ w. resulted (status_of (watch_at s w).edition (held_numbers s w)))

abbrev pub fetching : Shelf → ℕ → Asked → ℕ → Outcome Part
fetching s area a m = after (known s area a) (λ w. (fetched_from s w m).outcome)

-- ---- a delivery
-- 14, 15, 1 to 9, 16, 17 and 18, or the watch that the section goes to
unfoldable pub going : Shelf → ℕ → ℕ → List ℕ → Outcome Owner
going s area pid b =
    or_refuse 14 (obeys s area)
    (or_refuse 15 (leb pid 8191)
    (after (judged b) (λ h. after (owner_in s.watches s.records (key_in pid b) h) (λ w. resulted (record { watch = w; header = h })))))

-- what the functions under the judge ask of a section of n bytes: they hold of every section that passes
pub record Sound (h : Header) (n : ℕ) : Type 0 where
  pub number_last : h.number ≤ h.last
  pub version_5 : h.version < 32
  pub size : n ≤ 4096

-- and of its watch
pub record Ready (s : Shelf) (w : ℕ) (h : Header) (area n : ℕ) : Type 0 where
  pub rules : obeys s area ≡ true
  pub below : w < s.records
  pub live : (watch_at s w).live ≡ true
  pub quota : h.last < (watch_at s w).quota
  pub sound : Sound h n

-- how many places are searched for sections to drop
unfoldable pub dropped_below : Edition → Header → ℕ → ℕ
dropped_below e h places = pick (same_edition e h) 0 places
