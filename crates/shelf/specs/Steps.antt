-- SCOPE 3.5 and 5: the five calls as one function, from a shelf with its area and a call to an answer and a shelf with its area.
use Rattle.std.specs.Prelude.{ℕ, Bool, true, false, not, List, eqb, length, Option}
use Rattle.part.specs.Parts.{bytes_in}
use Rattle.part.specs.declared.Part.{Part}
use Rattle.refusal.specs.Outcomes.{Outcome, refused, resulted}
use Rattle.shelf_state.specs.declared.records.Asked.{Asked}
use Rattle.shelf_state.specs.declared.records.Shelf.{Shelf}
use Rattle.shelf.specs.Answers.{After}
use Rattle.shelf.specs.Views.{Status, Call, View, asks, closes, delivers, fetches, opens, view}
use Rattle.shelf.specs.Calls.{opened, closed, status_after, fetched}
use Rattle.shelf.specs.Delivery.{area_after, delivered, delivering}

-- ---- a shelf with its area
pub record State : Type 0 where
  pub shelf : Shelf
  pub area : List ℕ

abbrev pub view_in : State → Asked → Option View
view_in x k = view x.shelf x.area k

-- ---- a call as it is made: the memory that it is lent as the area is the shelf's own or another
pub data Lent : Type 0 where
  own : Lent
  other : List ℕ → Lent

pub record Turn : Type 0 where
  pub call : Call
  pub lent : Lent

abbrev pub lent_to : State → Lent → List ℕ
lent_to x own = x.area
lent_to x (other l) = l

-- holds of a turn that is lent the shelf's own area, or another memory whose length is not n, which 14 refuses. Another memory of the same length would
-- hold what the shelf's records speak of outside of its area: then something else writes the shelf, of which the third demand does not speak. The laws
-- of views leave such turns out (docs/DECISIONS.md, 43); those of the records alone hold of them too
abbrev pub own_or14 : ℕ → Lent → Bool
own_or14 n own = true
own_or14 n (other l) = not (eqb (length l) n)

-- the shelf's own area after a call that leaves the lent memory so
abbrev pub area_then : State → Lent → List ℕ → List ℕ
area_then x own l = l
area_then x (other m) l = x.area

-- ---- what it answers: done; a status; the bytes that are fetched
pub data Answer : Type 0 where
  did : Outcome (Unit {0}) → Answer
  reported : Outcome Status → Answer
  gave : Outcome (List ℕ) → Answer

abbrev pub is_result : {A : Type 0} → Outcome A → Bool
is_result (refused k) = false
is_result (resulted x) = true

-- not refused
abbrev pub accepted : Answer → Bool
accepted (did o) = is_result o
accepted (reported o) = is_result o
accepted (gave o) = is_result o

-- the bytes of a fetched part
abbrev pub fetched_bytes : List ℕ → Outcome Part → Outcome (List ℕ)
fetched_bytes area (refused k) = refused k
fetched_bytes area (resulted p) = resulted (bytes_in area p)

pub record Step : Type 0 where
  pub answer : Answer
  pub next : State

-- the lent memory is only read
abbrev pub only_read : {A : Type 0} → State → (Outcome A → Answer) → After A → Step
only_read x f r = record { answer = f r.outcome; next = record { shelf = r.shelf; area = x.area } }

-- ---- the calls, by the definitions that their promises cite: on x, with the memory l lent, which u says whether it is x's own
unfoldable pub step_on : State → Lent → List ℕ → Call → Step
step_on x u l (opens o) = only_read x did (opened x.shelf (length l) o.key o.quota)
step_on x u l (closes c) = only_read x did (closed x.shelf (length l) c.key)
step_on x u l (asks q) = only_read x reported (status_after x.shelf (length l) q.key)
step_on x u l (fetches f) = only_read x (λ o. gave (fetched_bytes l o)) (fetched x.shelf (length l) f.key f.number)
step_on x u l (delivers d) = record {
  answer = did (delivered x.shelf (length l) d.pid d.bytes).outcome;
  next = record {
    shelf = (delivered x.shelf (length l) d.pid d.bytes).shelf;
    area = area_then x u (area_after l d.bytes (delivering x.shelf (length l) d.pid d.bytes).outcome);
  };
}

unfoldable pub step : State → Turn → Step
step x t = step_on x t.lent (lent_to x t.lent) t.call
