-- What is given to be written, as numbers: the header's five, and the number of events or the ETM_id. SCOPE 6.
use Rattle.std.specs.Prelude.{ℕ, List, get_or}
use Rattle.refusal.specs.Outcomes.{Outcome}
use Rattle.section.specs.declared.write.Given.{Given}
use Rattle.writing.specs.Written.{eit_written, ett_written}

abbrev pub given_in : List ℕ → Given
given_in q = record { extension = get_or q 0 0; version = get_or q 1 0; current = get_or q 2 0; number = get_or q 3 0; last = get_or q 4 0 }

-- an EIT whose events have these rows, with places in the bytes; the sixth number counts the events
abbrev pub eit_from : List ℕ → List ℕ → List ℕ → ℕ → Outcome (List ℕ)
eit_from q rows bytes room = eit_written (given_in q) (get_or q 5 0) rows bytes room

-- an ETT of this text; the sixth number is its ETM_id
abbrev pub ett_from : List ℕ → List ℕ → ℕ → Outcome (List ℕ)
ett_from q text room = ett_written (given_in q) (get_or q 5 0) text room
