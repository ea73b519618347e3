-- How the rules are tested: record by record and place by place. That this is the rules' own value is the law `tested_rules`.
use Rattle.std.specs.Prelude.{ℕ, ◌+◌, Bool, not, List, ltb, leb}
use Rattle.logic.specs.Loops.{◌&◌, ◌⇒◌, all, any}
use Rattle.shelf_state.specs.Records.{asked, watch_at, place_at, is_of, holds}
use Rattle.shelf_state.specs.Searches.{watch_in, promised_in}
use Rattle.shelf_state.specs.Rules.{in_range, sizes_fit}
use Rattle.shelf_state.specs.declared.records.Watch.{Watch}
use Rattle.shelf_state.specs.declared.records.Place.{Place}
use Rattle.shelf_state.specs.declared.records.Shelf.{Shelf}

-- the edition's last section number is below the quota
unfoldable pub last_ok : Watch → Bool
last_ok w = w.edition.heard ⇒ ltb w.edition.last w.quota

-- an open watch's own numbers
unfoldable pub watch_sound : Watch → Bool
watch_sound w = w.live ⇒ in_range (asked w.key) w.quota & last_ok w

-- no earlier open watch has its key
unfoldable pub key_is_new : List Watch → ℕ → Bool
key_is_new ws i = (watch_in ws i).live ⇒ not (any i (λ j. is_of (watch_in ws j) (asked (watch_in ws i).key)))

unfoldable pub watch_ok : List Watch → ℕ → Bool
watch_ok ws i = watch_sound (watch_in ws i) & key_is_new ws i

abbrev pub watches_ok : List Watch → ℕ → Bool
watches_ok ws n = all n (watch_ok ws)

-- the quotas of the first n watches and `extra` more fit so many places
abbrev pub room_in : List Watch → ℕ → ℕ → ℕ → Bool
room_in ws n places extra = leb (promised_in ws n + extra) places

-- the place's length fits; its watch is open and has an edition; the number is at most its last
unfoldable pub sound_under : Watch → Place → Bool
sound_under w p = leb p.length 4096 & w.live & w.edition.heard & leb p.number w.edition.last

unfoldable pub owner_ok : Shelf → Place → Bool
owner_ok s p = ltb p.watch s.records & sound_under (watch_at s p.watch) p

unfoldable pub place_ok : Shelf → ℕ → Bool
place_ok s i =
    (place_at s i).used
    ⇒ owner_ok s (place_at s i)
    & not (any i (λ j. holds (place_at s j) (place_at s i).watch (place_at s i).number))

abbrev pub places_ok : Shelf → Bool
places_ok s = all s.count (place_ok s)

unfoldable pub tested : Shelf → ℕ → Bool
tested s area = sizes_fit s area & watches_ok s.watches s.records & room_in s.watches s.records s.count 0 & places_ok s
