-- What a C program is told: of a section the refusal's number, or 0; of what has a number, that number, or 0.
use Rattle.std.specs.Prelude.{ℕ}
use Rattle.refusal.specs.Outcomes.{Outcome, refused, resulted}
use Rattle.section.specs.declared.write.Given.{Given}

abbrev pub told : {A : Type 0} → Outcome A → ℕ
told (refused n) = n
told (resulted a) = 0

abbrev pub or_zero : Outcome ℕ → ℕ
or_zero (refused n) = 0
or_zero (resulted n) = n

-- the header of the sections that are measured
abbrev pub header : Given
header = record { extension = 7; version = 3; current = 1; number = 0; last = 0 }
