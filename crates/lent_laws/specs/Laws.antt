-- The laws of the calls on lent memory, as statements: the calls as a build over lent memory, which steps as the shelf's own calls do.
use Rattle.std.specs.Prelude.{ℕ, zero, suc, ◌<◌, ◌*◌, ◌≡◌, List, eqb, replicate}
use Rattle.logic.specs.Choices.{pick}
use Rattle.part.specs.declared.Part.{Part}
use Rattle.refusal.specs.Outcomes.{Outcome, refused, resulted}
use Rattle.shelf_state.specs.Searches.{empty_shelf}
use Rattle.shelf.specs.Views.{Status, complete, held, unheard, Call, asks, closes, delivers, fetches, opens}
use Rattle.shelf.specs.Steps.{Answer, State, Turn, area_then, did, fetched_bytes, gave, lent_to, step, reported}
use Rattle.lent.specs.Calls.{Left, CallIn, called, lent_call}
use Rattle.lent_memory.specs.Meaning.{LentState, blank, lent, meaning, number_at, row_size}

-- ---- the shelf and the area that lent memory means
abbrev pub state_of : LentState → State
state_of x = record { shelf = meaning x; area = x.area }

-- ---- the answer that a caller reads off a call's number and its reply
abbrev pub outcome_in : {A : Type 0} → ℕ → A → Outcome A
outcome_in zero a = resulted a
outcome_in (suc k) a = refused (suc k)

abbrev pub status_in : ℕ → ℕ → ℕ → Status
status_in k c n = pick (eqb k 1) unheard (pick (eqb k 2) (held c n) (complete n))

abbrev pub part_in : ℕ → ℕ → Part
part_in a n = record { start = a; length = n }

abbrev pub answer_in : Call → ℕ → List ℕ → List ℕ → Answer
answer_in (opens o) n area y = did (outcome_in n tt)
answer_in (closes c) n area y = did (outcome_in n tt)
answer_in (asks q) n area y = reported (outcome_in n (status_in (number_at y 0) (number_at y 1) (number_at y 2)))
answer_in (fetches f) n area y = gave (fetched_bytes area (outcome_in n (part_in (number_at y 1) (number_at y 2))))
answer_in (delivers d) n area y = did (outcome_in n tt)

-- ---- the lent calls as a build: a turn's memory may be another than the shelf's area; y is the reply's memory
pub record LentStep : Type 0 where
  pub answer : Answer
  pub next : LentState

abbrev pub stepped : LentState → Turn → List ℕ → Left → LentStep
stepped x t area k = record {
  answer = answer_in t.call k.number area k.reply;
  next = lent k.state.watches k.state.places (area_then (state_of x) t.lent k.state.area);
}

unfoldable pub lent_step : List ℕ → LentState → Turn → LentStep
lent_step y x t =
    stepped x t (lent_to (state_of x) t.lent) (lent_call (lent x.watches x.places (lent_to (state_of x) t.lent)) t.call y)

-- what it leaves means what the shelf's own step leaves, with the same answer: so every law over `step` goes over
abbrev pub LentStepLaw : Type 0
LentStepLaw =
    (y : List ℕ) (x : LentState) (t : Turn)
    → (state_of (lent_step y x t).next ≡ (step (state_of x) t).next) × ((lent_step y x t).answer ≡ (step (state_of x) t).answer)

-- ---- a call that is refused changes nothing that it is lent: no record, no number of a row, no byte of the area, no number of the reply
abbrev pub RefusedKeeps : Type 0
RefusedKeeps =
    (f : CallIn) (x : LentState) (b q y : List ℕ) → 0 < (called f x b q y).number → ((called f x b q y).state ≡ x) × ((called f x b q y).reply ≡ y)

-- ---- memory of zeros alone is a shelf with nothing on it
abbrev pub ZeroEmpty : Type 0
ZeroEmpty =
    (places records : ℕ) (area : List ℕ)
    → meaning (lent (replicate records blank) (replicate (places * row_size) 0) area) ≡ empty_shelf places records
