-- SCOPE 3.5 and 5: the first page of the shelf's calls. What a key's watch has collected is its view: its quota, its edition and what is
-- kept of its sections, by number. What a call answers to a key is told here of that view (of an opening, also of the records and places that
-- are left), and what it does to the view is told of that view, the call and whether it was accepted. How a shelf keeps its views, in watch
-- records, places and an area, is told at the end.
use Rattle.std.specs.Prelude.{ℕ, ◌+◌, ◌*◌, Bool, true, false, not, List, leb, eqb, Option, Some, None}
use Rattle.logic.specs.Choices.{pick, if_eq}
use Rattle.logic.specs.Loops.{◌&◌, any, count, first}
use Rattle.kind.specs.Kinds.{kind_of}
use Rattle.part.specs.Parts.{bytes_in}
use Rattle.refusal.specs.Outcomes.{Outcome, refused, resulted, or_refuse}
use Rattle.section.specs.declared.header.Header.{Header}
use Rattle.section.specs.Headers.{table_id, table_id_extension}
use Rattle.section.specs.Sections.{section_by}
use Rattle.shelf_state.specs.Records.{no_edition, watch_at, place_at, same_key, is_of, holds}
use Rattle.shelf_state.specs.Rules.{in_range, promised}
use Rattle.shelf_state.specs.declared.records.Asked.{Asked}
use Rattle.shelf_state.specs.declared.records.Edition.{Edition}
use Rattle.shelf_state.specs.declared.records.Shelf.{Shelf}

-- ---- a view
-- what is kept of a section
pub record Kept : Type 0 where
  pub bytes : List ℕ

pub record View : Type 0 where
  pub quota : ℕ
  pub edition : Edition
  pub kept : ℕ → Option Kept

-- ---- a section, as it is delivered
-- its tests 1 to 9
unfoldable pub judged : List ℕ → Outcome Header
judged b = section_by kind_of b

-- the key of a section that comes on a PID; no other place makes one of a section's bytes
abbrev pub key_in : ℕ → List ℕ → Asked
key_in pid b = record { pid = pid; table_id = table_id b; extension = table_id_extension b }

-- what it is before any watch is asked: 15, 1 to 9, 16, or a current section
abbrev pub current_of : Outcome Header → Outcome Header
current_of (refused k) = refused k
current_of (resulted h) = or_refuse 16 (not (eqb h.current 0)) (resulted h)

unfoldable pub current_on : ℕ → List ℕ → Outcome Header
current_on pid b = or_refuse 15 (leb pid 8191) (current_of (judged b))

-- ---- an edition: a version and a last number, both of them
abbrev pub edition_of : Header → Edition
edition_of h = record { heard = true; version = h.version; last = h.last }

unfoldable pub same_edition : Edition → Header → Bool
same_edition e h = e.heard & eqb e.version h.version & eqb e.last h.last

-- ---- the five calls, each with what it is asked with
pub record Opening : Type 0 where
  pub key : Asked
  pub quota : ℕ

pub record Closing : Type 0 where
  pub key : Asked

pub record Question : Type 0 where
  pub key : Asked

pub record Fetching : Type 0 where
  pub key : Asked
  pub number : ℕ

pub record Delivery : Type 0 where
  pub pid : ℕ
  pub bytes : List ℕ

pub data Call : Type 0 where
  opens : Opening → Call
  closes : Closing → Call
  asks : Question → Call
  fetches : Fetching → Call
  delivers : Delivery → Call

-- ---- what a call does to a view
abbrev pub fresh_view : ℕ → View
fresh_view q = record { quota = q; edition = no_edition; kept = λ _. None }

-- a section put under its number
unfoldable pub put : (ℕ → Option Kept) → ℕ → List ℕ → ℕ → Option Kept
put f n b m = pick (eqb m n) (Some (record { bytes = b })) (f m)

-- another edition drops what was kept; then the section is kept under its number
unfoldable pub hears : View → Header → List ℕ → View
hears v h b = record {
  quota = v.quota;
  edition = edition_of h;
  kept = put (pick (same_edition v.edition h) v.kept (λ _. None)) h.number b;
}

abbrev pub hears_in : Option View → List ℕ → Outcome Header → Option View
hears_in None b o = None
hears_in (Some v) b (refused k) = Some v
hears_in (Some v) b (resulted h) = Some (hears v h b)

-- the next view of any key: by its view, the call, and whether the call was accepted
unfoldable pub next_view : Asked → Call → Bool → Option View → Option View
next_view k (opens o) y v = pick (y & same_key k o.key) (Some (fresh_view o.quota)) v
next_view k (closes c) y v = pick (y & same_key k c.key) None v
next_view k (asks q) y v = v
next_view k (fetches f) y v = v
next_view k (delivers d) y v = pick (y & same_key k (key_in d.pid d.bytes)) (hears_in v d.bytes (judged d.bytes)) v

-- ---- what a call answers to a key with this view, on a shelf that obeys its rules
abbrev pub is_some : {A : Type 0} → Option A → Bool
is_some None = false
is_some (Some x) = true

-- an opening also asks the shelf: for a record that is not open, and for places that are not promised
unfoldable pub opening_says : Shelf → Option View → Opening → Outcome (Unit {0})
opening_says s v o =
    or_refuse 15 (in_range o.key o.quota)
    (or_refuse 19 (not (is_some v))
    (or_refuse 20 (any s.records (λ i. not (watch_at s i).live))
    (or_refuse 21 (leb (promised s + o.quota) s.count)
    (resulted tt))))

abbrev pub closing_says : Option View → Outcome (Unit {0})
closing_says None = refused 17
closing_says (Some v) = resulted tt

-- a watch answers: nothing heard, c of n sections, or complete (with n)
pub data Status : Type 0 where
  unheard : Status
  held : ℕ → ℕ → Status
  complete : ℕ → Status

-- complete where all n numbers from 0 to last are held, else c of n
unfoldable pub held_or_complete : ℕ → ℕ → Status
held_or_complete c n = if_eq c n (complete n) (held c n)

-- nothing heard, where there is no edition
unfoldable pub status_of : Edition → ℕ → Status
status_of e c = pick e.heard (held_or_complete c (e.last + 1)) unheard

-- c is how many numbers from 0 to last are kept
abbrev pub held_in : View → ℕ
held_in v = count (v.edition.last + 1) (λ m. is_some (v.kept m))

abbrev pub status_says : Option View → Outcome Status
status_says None = refused 17
status_says (Some v) = resulted (status_of v.edition (held_in v))

abbrev pub bytes_or22 : Option Kept → Outcome (List ℕ)
bytes_or22 None = refused 22
bytes_or22 (Some k) = resulted k.bytes

abbrev pub fetching_says : Option View → ℕ → Outcome (List ℕ)
fetching_says None m = refused 17
fetching_says (Some v) m = bytes_or22 (v.kept m)

unfoldable pub delivery_says : Option View → Outcome Header → Outcome (Unit {0})
delivery_says v (refused k) = refused k
delivery_says None (resulted h) = refused 17
delivery_says (Some v) (resulted h) = or_refuse 18 (leb (h.last + 1) v.quota) (resulted tt)

-- ---- how a shelf with its area keeps the view of a key: none where it is not watched
-- what stands at the first number below n that has f
unfoldable pub at_first : {A : Type 0} → ℕ → (ℕ → Bool) → (ℕ → A) → Option A
at_first n f g = pick (any n f) (Some (g (first n f))) None

-- the first n bytes of place i
abbrev pub bytes_at : List ℕ → ℕ → ℕ → List ℕ
bytes_at area i n = bytes_in area (record { start = i * 4096; length = n })

unfoldable pub kept_at : Shelf → List ℕ → ℕ → ℕ → Option Kept
kept_at s area w m = at_first s.count (λ i. holds (place_at s i) w m) (λ i. record { bytes = bytes_at area i (place_at s i).length })

unfoldable pub view_at : Shelf → List ℕ → ℕ → View
view_at s area w = record { quota = (watch_at s w).quota; edition = (watch_at s w).edition; kept = kept_at s area w }

unfoldable pub view : Shelf → List ℕ → Asked → Option View
view s area a = at_first s.records (λ i. is_of (watch_at s i) a) (view_at s area)
