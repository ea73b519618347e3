-- The numbers of a section's header, and where a body fails. SCOPE 1 and 6.
use Rattle.std.specs.Prelude.{ℕ, List, [], ◌∷◌}
use Rattle.refusal.specs.Outcomes.{Outcome, refused, resulted}
use Rattle.kind.specs.Kinds.{table_id_of}
use Rattle.section.specs.declared.header.Header.{Header}
use Rattle.section.specs.Answers.{Verdict, refused_by, broken_at, sound_with}
use Rattle.refusal.specs.Outputs.{no_value}

-- table_id, table_id_extension, version_number, current_next_indicator, section_number, last_section_number
abbrev pub header_numbers : Header → List ℕ
header_numbers h = table_id_of h.kind ∷ h.extension ∷ h.version ∷ h.current ∷ h.number ∷ h.last ∷ []

-- where a body fails: 1 to 8, or the offset of the field that is to blame, or that there is none
abbrev pub fault_of : Verdict → Outcome ℕ
fault_of (refused_by n) = refused n
fault_of (broken_at x) = resulted x
fault_of (sound_with h) = resulted no_value
