-- What the code's answers mean: the number of SCOPE 6 or its values, for every case of the answers' types, and the shelf after a call.
use Rattle.refusal.specs.Outcomes.{Outcome, outcome, outcome_by}
use Rattle.shelf_state.specs.declared.records.Shelf.{Shelf}
use Rattle.shelf.specs.declared.answers.Progress.{Progress}
use Rattle.shelf.specs.declared.answers.Progress.TheVariants.{NothingHeard, Complete}
use Rattle.shelf.specs.declared.answers.Progress.TheVariants as P
use Rattle.shelf.specs.declared.answers.After as code
use Rattle.shelf.specs.Views.{Status, unheard, held, complete}

-- ---- every case of a status
abbrev pub status_told : Progress → Status
status_told NothingHeard = unheard
status_told (P.Part c n) = held c n
status_told (Complete n) = complete n

-- ---- a call is a function from a shelf to an outcome and a shelf
pub record After (A : Type 0) : Type 0 where
  pub outcome : Outcome A
  pub shelf : Shelf

-- what a call of the code answers and leaves: its value as f reads it, or as it is
abbrev pub after_by : {A B : Type 0} → (A → B) → code.After A → After B
after_by f r = record { outcome = outcome_by f r.answer; shelf = r.shelf }

abbrev pub after : {A : Type 0} → code.After A → After A
after r = record { outcome = outcome r.answer; shelf = r.shelf }
