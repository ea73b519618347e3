-- SCOPE 5 and 12.3: the laws of the shelf's calls, as statements. What a call does to the view of a key and what it answers is told by
-- Views.antt of `shelf`; these say that it is so, and what else stays.
use Rattle.std.specs.Prelude.{ℕ, ◌*◌, ◌≡◌, Bool, true, false, List, length, Some, None}
use Rattle.refusal.specs.Outcomes.{refused, resulted, or_refuse}
use Rattle.shelf_state.specs.Rules.{obeys, promised, sizes_in_range}
use Rattle.shelf_state.specs.declared.records.Asked.{Asked}
use Rattle.shelf_state.specs.declared.records.Shelf.{Shelf}
use Rattle.section.specs.declared.header.Header.{Header}
use Rattle.shelf.specs.Calls.{made}
use Rattle.shelf.specs.Delivery.{area_after, delivering}
use Rattle.shelf.specs.Steps.{Answer, State, Turn, accepted, did, gave, lent_to, own, own_or14, step, reported, view_in}
use Rattle.shelf.specs.Views.{Call, Delivery, View, asks, closes, closing_says, current_on, delivers, delivery_says, fetches, fetching_says, key_in, next_view, opening_says, opens, same_edition, status_says}

abbrev pub Obeys : State → Type 0
Obeys x = obeys x.shelf (length x.area) ≡ true

-- ---- one step of any call, on a shelf that obeys its rules: they are kept and the area keeps its length, whatever memory the call is lent; and
-- where nothing else writes the shelf, the next view of any key is a function of its view, the call and whether the call was accepted.
-- (Promised.antt has the places promised, and Stays.antt what else stays)
pub record OneStep (x : State) (t : Turn) : Type 0 where
  pub keeps : Obeys (step x t).next
  pub size : length (step x t).next.area ≡ length x.area
  pub views : own_or14 (length x.area) t.lent ≡ true
      → (k : Asked) → view_in (step x t).next k ≡ next_view k t.call (accepted (step x t).answer) (view_in x k)

abbrev pub StepLaw : Type 0
StepLaw = (x : State) (t : Turn) → Obeys x → OneStep x t

-- ---- the answers, on a shelf that obeys its rules, with the memory that is lent as its area: by the key's view there, and of an opening by what is left
unfoldable pub Says : State → Call → Answer → Type 0
Says x (opens o) r = r ≡ did (opening_says x.shelf (view_in x o.key) o)
Says x (closes c) r = r ≡ did (closing_says (view_in x c.key))
Says x (asks q) r = r ≡ reported (status_says (view_in x q.key))
Says x (fetches f) r = r ≡ gave (fetching_says (view_in x f.key) f.number)
Says x (delivers d) r = r ≡ did (delivery_says (view_in x (key_in d.pid d.bytes)) (current_on d.pid d.bytes))

-- the shelf, with the memory that a turn is lent as its area: what its answer is about
abbrev pub with_lent : State → Turn → State
with_lent x t = record { shelf = x.shelf; area = lent_to x t.lent }

abbrev pub AnswerLaw : Type 0
AnswerLaw = (x : State) (t : Turn) → Obeys (with_lent x t) → Says (with_lent x t) t.call (step x t).answer

-- every other call, on a shelf that breaks its rules with the memory that it is lent as its area, is refused by 14
abbrev pub refused_as : Call → ℕ → Answer
refused_as (opens o) n = did (refused n)
refused_as (closes c) n = did (refused n)
refused_as (asks q) n = reported (refused n)
refused_as (fetches f) n = gave (refused n)
refused_as (delivers d) n = did (refused n)

abbrev pub BrokenLaw : Type 0
BrokenLaw = (x : State) (t : Turn) → (Obeys (with_lent x t) → ⊥) → (step x t).answer ≡ refused_as t.call 14

-- ---- demand 1: a refused call leaves the shelf and its area, of any shelf and any lent memory; and so does every question
abbrev pub RefusedStays : Type 0
RefusedStays = (x : State) (t : Turn) → accepted (step x t).answer ≡ false → (step x t).next ≡ x

abbrev pub is_question : Call → Bool
is_question (opens o) = false
is_question (closes c) = false
is_question (asks q) = true
is_question (fetches f) = true
is_question (delivers d) = false

abbrev pub QuestionsStay : Type 0
QuestionsStay = (x : State) (t : Turn) → is_question t.call ≡ true → (step x t).next ≡ x

-- the lent memory of a refused delivery stays, whosever it is
abbrev pub LentStays : Type 0
LentStays = (s : Shelf) (l : List ℕ) (pid : ℕ) (b : List ℕ) (n : ℕ) → (delivering s (length l) pid b).outcome ≡ refused n
    → area_after l b (delivering s (length l) pid b).outcome ≡ l

-- ---- a delivery of equal bytes changes nothing
abbrev pub EqualBytesStay : Type 0
EqualBytesStay = (x : State) (d : Delivery) (h : Header) (v : View) → Obeys x → current_on d.pid d.bytes ≡ resulted h
    → view_in x (key_in d.pid d.bytes) ≡ Some v → same_edition v.edition h ≡ true → v.kept h.number ≡ Some (record { bytes = d.bytes })
    → step x (record { call = delivers d; lent = own }) ≡ record { answer = did (resulted tt); next = x }

-- ---- an empty shelf is made where its sizes are in range; it has them, obeys its rules, promises nothing and watches no key
abbrev pub MadeLaw : Type 0
MadeLaw = (places records : ℕ) → (made places records).outcome ≡ or_refuse 14 (sizes_in_range places records) (resulted tt)

pub record Empty (places records : ℕ) (x : State) : Type 0 where
  pub places_are : x.shelf.count ≡ places
  pub records_are : x.shelf.records ≡ records
  pub rules : Obeys x
  pub nothing_promised : promised x.shelf ≡ 0
  pub no_view : (k : Asked) → view_in x k ≡ None

abbrev pub EmptyLaw : Type 0
EmptyLaw = (places records : ℕ) (area : List ℕ) → (made places records).outcome ≡ resulted tt → length area ≡ places * 4096
    → Empty places records (record { shelf = (made places records).shelf; area = area })
