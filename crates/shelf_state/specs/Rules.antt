-- SCOPE 5.3: a definition a rule, under the rule's letter, and the sizes of SCOPE 5.1. Only open records and taken places, within the
-- sizes in use, are judged. Of a shelf, `records` is how many watches are in use, and `count` how many places.
use Rattle.std.specs.Prelude.{ℕ, ◌*◌, Bool, false, not, length, ltb, leb, eqb, Option, Some, None}
use Rattle.logic.specs.Choices.{pick}
use Rattle.kind.specs.declared.Kind.{Kind}
use Rattle.kind.specs.Kinds.{kind_of, limits_of}
use Rattle.logic.specs.Loops.{◌&◌, ◌⇒◌, all, any, sum, count}
use Rattle.shelf_state.specs.Records.{asked, watch_at, place_at, is_of, holds_for, holds}
use Rattle.shelf_state.specs.declared.records.Asked.{Asked}
use Rattle.shelf_state.specs.declared.records.Watch.{Watch}
use Rattle.shelf_state.specs.declared.records.Shelf.{Shelf}

-- ---- the words of the rules
-- an open watch's quota
unfoldable pub quota_of : Watch → ℕ
quota_of w = pick w.live w.quota 0

-- the places promised: the sum of the open watches' quotas
abbrev pub promised : Shelf → ℕ
promised s = sum s.records (λ i. quota_of (watch_at s i))

-- how many sections watch w holds
abbrev pub held_by : Shelf → ℕ → ℕ
held_by s w = count s.count (λ i. holds_for (place_at s i) w)

-- a kind that may be watched
unfoldable pub watchable : Option Kind → Bool
watchable None = false
watchable (Some k) = (limits_of k).watched

-- refusal 15 is given where this fails: the PID, the table_id, the quota
unfoldable pub in_range : Asked → ℕ → Bool
in_range a q = leb a.pid 8191 & watchable (kind_of a.table_id) & leb 1 q & leb q 64

-- ---- the rules
-- a: no two open watches have the same key: no earlier open watch has the key
unfoldable pub keys_differ : Shelf → Bool
keys_differ s = all s.records (λ j. (watch_at s j).live ⇒ not (any j (λ i. is_of (watch_at s i) (asked (watch_at s j).key))))

-- b: quotas add up to at most the places
unfoldable pub quotas_fit : Shelf → Bool
quotas_fit s = leb (promised s) s.count

-- c: each place is free or holds one section of an open watch, numbered at most its last
unfoldable pub places_owned : Shelf → Bool
places_owned s =
    all s.count (λ i. (place_at s i).used
    ⇒ ltb (place_at s i).watch s.records & (watch_at s (place_at s i).watch).live & leb (place_at s i).number (watch_at s (place_at s i).watch).edition.last)

-- d: no watch holds a number twice: no earlier place has the section
unfoldable pub none_twice : Shelf → Bool
none_twice s = all s.count (λ j. (place_at s j).used ⇒ not (any j (λ i. holds (place_at s i) (place_at s j).watch (place_at s j).number)))

-- e: no watch holds more sections than its quota
unfoldable pub none_above_quota : Shelf → Bool
none_above_quota s = all s.records (λ w. (watch_at s w).live ⇒ leb (held_by s w) (watch_at s w).quota)

-- f: the last of an edition is below the watch's quota
unfoldable pub last_below_quota : Shelf → Bool
last_below_quota s = all s.records (λ w. (watch_at s w).live & (watch_at s w).edition.heard ⇒ ltb (watch_at s w).edition.last (watch_at s w).quota)

-- g: a watch with no edition holds nothing
unfoldable pub unheard_empty : Shelf → Bool
unheard_empty s = all s.records (λ w. (watch_at s w).live & not (watch_at s w).edition.heard ⇒ eqb (held_by s w) 0)

-- h: lengths are at most 4,096
unfoldable pub lengths_fit : Shelf → Bool
lengths_fit s = all s.count (λ i. (place_at s i).used ⇒ leb (place_at s i).length 4096)

-- i: keys and quotas are in range
unfoldable pub keys_in_range : Shelf → Bool
keys_in_range s = all s.records (λ w. (watch_at s w).live ⇒ in_range (asked (watch_at s w).key) (watch_at s w).quota)

-- ---- the sizes: 1 to 16 records, 1 to 64 places, an area of 4,096 bytes a place. (A shelf has arrays of sixteen records and 64 places, always; the
-- first so many of each are in use)
unfoldable pub sizes_in_range : ℕ → ℕ → Bool
sizes_in_range places records = leb 1 places & leb places 64 & leb 1 records & leb records 16

unfoldable pub sizes_fit : Shelf → ℕ → Bool
sizes_fit s area = eqb (length s.watches) 16 & eqb (length s.places) 64 & sizes_in_range s.count s.records & eqb area (s.count * 4096)

-- refusal 14 is given where this fails, of a shelf and the length of its area
unfoldable pub obeys : Shelf → ℕ → Bool
obeys s area =
    sizes_fit s area
    & keys_differ s
    & quotas_fit s
    & places_owned s
    & none_twice s & none_above_quota s
    & last_below_quota s
    & unheard_empty s
    & lengths_fit s
    & keys_in_range s
