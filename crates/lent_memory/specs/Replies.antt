-- What a call on lent memory is asked and what it answers, as numbers: a question of four, a reply of three. SCOPE 5, 6.
use Rattle.std.specs.Prelude.{ℕ, ◌+◌, ◌*◌, ◌/◌, ◌%◌, Bool, List, [], ◌∷◌, eqb, length}
use Rattle.logic.specs.Loops.{◌&◌}
use Rattle.part.specs.declared.Part.{Part}
use Rattle.refusal.specs.Outcomes.{Outcome, refused, resulted}
use Rattle.refusal.specs.Outputs.{no_value}
use Rattle.shelf_state.specs.declared.records.Asked.{Asked}
use Rattle.shelf.specs.Views.{Status, complete, held, unheard}
use Rattle.lent_memory.specs.Meaning.{number_at}

-- ---- a question: PID, table_id, extension, and a quota or a section's number. An extension that does not fit its field makes the PID
-- one that no watch can have
abbrev pub asked_in : List ℕ → Asked
asked_in q = record { pid = number_at q 0 + 65536 * (number_at q 2 / 65536); table_id = number_at q 1; extension = number_at q 2 % 65536 }

abbrev pub amount_in : List ℕ → ℕ
amount_in q = number_at q 3

-- ---- a reply: a code and two values, of which a blank has none: not 0. A refusal leaves it as it was
abbrev pub status_numbers : Status → List ℕ
status_numbers unheard = 1 ∷ no_value ∷ no_value ∷ []
status_numbers (held c n) = 2 ∷ c ∷ n ∷ []
status_numbers (complete n) = 3 ∷ n ∷ n ∷ []

abbrev pub part_numbers : Part → List ℕ
part_numbers p = 4 ∷ p.start ∷ p.length ∷ []

abbrev pub reply_after : {A : Type 0} → (A → List ℕ) → List ℕ → Outcome A → List ℕ
reply_after f y (refused k) = y
reply_after f y (resulted a) = f a

-- ---- whether a question has its four numbers and a reply its three
unfoldable pub call_fits : List ℕ → List ℕ → Bool
call_fits q y = eqb (length q) 4 & eqb (length y) 3
