-- SCOPE 6, numbers 1 to 9: a whole section. The header's tests come first, then its kind's body, from the header's end to the
-- checksum.
use Rattle.std.specs.Prelude.{ℕ, ◌-◌, List, length, Option}
use Rattle.bytes_at.specs.Walks.{standing, Walk}
use Rattle.refusal.specs.Outcomes.{Outcome, resulted, after}
use Rattle.kind.specs.declared.Kind.{Kind}
use Rattle.kind.specs.Kinds.{limits_of}
use Rattle.format.specs.Formats.{walks_all}
use Rattle.section.specs.Walked.{body_of}
use Rattle.section.specs.declared.header.Header.{Header}
use Rattle.section.specs.Headers.{header_by}

-- the walk through the body of a section of a kind
abbrev pub body_walk : Kind → List ℕ → Walk
body_walk k s = walks_all (body_of k) s (length s - 4) (limits_of k).body

-- 9
unfoldable pub body_test : Header → List ℕ → Outcome Header
body_test h s = after (standing (body_walk h.kind s)) (λ e. resulted h)

-- 1 to 9 of a call that reads the kinds that `finds` finds by their table_id
unfoldable pub section_by : (ℕ → Option Kind) → List ℕ → Outcome Header
section_by finds s = after (header_by finds s) (λ h. body_test h s)
