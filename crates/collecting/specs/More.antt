-- What follows from the third demand (Collecting.antt) or goes beyond it: the second half from any shelf on which no watch has an edition, when
-- a watch is called complete, SCOPE 5.9 (the places promised), and which builds keep all of these, the calls on lent memory too.
use Rattle.std.specs.Prelude.{ℕ, ◌+◌, ◌<◌, ◌≡◌, true, false, List, [], ◌∷◌, length, Option, Some, None}
use Rattle.refusal.specs.Outcomes.{resulted}
use Rattle.shelf_state.specs.Rules.{promised}
use Rattle.shelf_state.specs.declared.records.Asked.{Asked}
use Rattle.shelf.specs.Views.{complete, View}
use Rattle.shelf.specs.Steps.{State, Turn, accepted, reported, step, view_in}
use Rattle.shelf_laws.specs.Laws.{Obeys}
use Rattle.shelf_laws.specs.Promised.{quota_closed, quota_next, quota_opened}
use Rattle.lent_memory.specs.Meaning.{LentState}
use Rattle.lent_laws.specs.Laws.{RefusedKeeps, lent_step, state_of}
use Rattle.collecting.specs.Collecting.{Build, Exchange, FirstHalf, FromEmpty, Heard, Own, StartsEmpty, ToldBy, history, occurs, recorded, run, state_after, status}

-- ---- the second half, from any shelf on which no open watch has an edition
abbrev pub Silent : State → Type 0
Silent x = (k : Asked) (v : View) → view_in x k ≡ Some v → v.edition.heard ≡ false

-- before the first call: nothing
abbrev pub nothing_yet : Option View → Option (List Heard)
nothing_yet None = None
nothing_yet (Some v) = Some []

abbrev pub SecondHalf : Build → Type 0
SecondHalf B =
    (x : B.Memory) (k : Asked) (ts : List Turn) → Obeys (B.means x) → Silent (B.means x) → Own (length (B.means x).area) ts
    → ToldBy B (state_after B x ts) k (history k (nothing_yet (view_in (B.means x) k)) (recorded B x ts))

-- so a watch is called complete only where every section of its edition was accepted since that edition began
abbrev pub EachAccepted : ℕ → Option (List Heard) → Type 0
EachAccepted n None = ⊥
EachAccepted n (Some []) = ⊥
EachAccepted n (Some (d ∷ ds)) = (n ≡ d.head.last + 1) × ((m : ℕ) → m < n → occurs (run (d ∷ ds)) m ≡ true)

abbrev pub CompleteOnlyThen : Type 1
CompleteOnlyThen =
    (B : Build) → SecondHalf B → (x : B.Memory) (k : Asked) (ts : List Turn) (n : ℕ) → Obeys (B.means x) → Silent (B.means x) → Own (length (B.means x).area) ts
    → (B.turn (state_after B x ts) (status k)).answer ≡ reported (resulted (complete n))
    → EachAccepted n (history k (nothing_yet (view_in (B.means x) k)) (recorded B x ts))

-- ---- SCOPE 5.9, of any stretch, whatever memory its calls are lent: the quotas opened less the quotas closed, those that the record of calls and
-- answers says they were opened with
unfoldable pub quotas_opened : List Exchange → ℕ
quotas_opened [] = 0
quotas_opened (e ∷ es) = quota_opened e.call (accepted e.answer) + quotas_opened es

unfoldable pub quotas_closed : (Asked → ℕ) → List Exchange → ℕ
quotas_closed f [] = 0
quotas_closed f (e ∷ es) =
    quota_closed e.call (accepted e.answer) f
    + quotas_closed (λ k. quota_next k e.call (accepted e.answer) (f k)) es

abbrev pub PlacesPromised : Build → Type 0
PlacesPromised B = (x : B.Memory) (ts : List Turn) → StartsEmpty B x
    → promised (B.means (state_after B x ts)).shelf + quotas_closed (λ k. 0) (recorded B x ts) ≡ quotas_opened (recorded B x ts)

-- ---- a build that answers and leaves what the calls by value do, of the shelf and area that its memory means, keeps all of these
pub record Agrees (B : Build) : Type 0 where
  pub answer_is : (x : B.Memory) (t : Turn) → (B.turn x t).answer ≡ (step (B.means x) t).answer
  pub next_is : (x : B.Memory) (t : Turn) → B.means (B.turn x t).next ≡ (step (B.means x) t).next

pub record Collects (B : Build) : Type 0 where
  pub first_half : FirstHalf B
  pub second_half : SecondHalf B
  pub from_empty : FromEmpty B
  pub places_promised : PlacesPromised B

abbrev pub AgreeingCollect : Type 1
AgreeingCollect = (B : Build) → Agrees B → Collects B

-- ---- the calls on lent memory are such a build, whatever stands in the memory of their replies
abbrev pub lent_build : List ℕ → Build
lent_build reply = record { Memory = LentState; means = state_of; turn = λ x t. record { answer = (lent_step reply x t).answer; next = (lent_step reply x t).next } }

-- so both halves hold of them; and the first demand, of any lent memory: a refused call changes nothing that it is lent, the reply too
pub record LentHolds : Type 0 where
  pub collects : (reply : List ℕ) → Collects (lent_build reply)
  pub refused_keeps : RefusedKeeps
