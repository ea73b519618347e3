-- What the code's answers mean; and the tests of SCOPE 6, numbers 1 to 9, once more, with the offset of the field to blame where the body fails.
use Rattle.std.specs.Prelude.{ℕ, List, Result, Ok, Err, Option}
use Rattle.bytes_at.specs.Walks.{Walk}
use Rattle.refusal.specs.Numbers.{number_of}
use Rattle.refusal.specs.Outcomes.{Outcome, refused, resulted}
use Rattle.kind.specs.declared.Kind.{Kind}
use Rattle.section.specs.declared.header.Header.{Header}
use Rattle.section.specs.declared.inner.Fault.{Fault}
use Rattle.section.specs.declared.inner.Fault.TheVariants.{Refused, Broken}
use Rattle.section.specs.Headers.{header_by}
use Rattle.section.specs.Sections.{body_walk}

-- ---- inspecting: a refusal by 1 to 8, the offset of the field to blame where the body fails, or the header
pub data Verdict : Type 0 where
  refused_by : ℕ → Verdict
  broken_at : ℕ → Verdict
  sound_with : Header → Verdict

abbrev pub verdict_of : Result Header Fault → Verdict
verdict_of (Ok h) = sound_with h
verdict_of (Err (Refused k)) = refused_by (number_of k)
verdict_of (Err (Broken x)) = broken_at x

-- how a walk through the body ends
abbrev pub by_walk : Walk → Header → Verdict
by_walk (Ok e) h = sound_with h
by_walk (Err x) h = broken_at x

unfoldable pub body_verdict : Header → List ℕ → Verdict
body_verdict h s = by_walk (body_walk h.kind s) h

unfoldable pub with_body : Outcome Header → List ℕ → Verdict
with_body (refused n) s = refused_by n
with_body (resulted h) s = body_verdict h s

unfoldable pub verdict_by : (ℕ → Option Kind) → List ℕ → Verdict
verdict_by finds s = with_body (header_by finds s) s

-- the number alone, which is that of `section_by` (law `plain_verdict`)
abbrev pub plainly : Verdict → Outcome Header
plainly (refused_by n) = refused n
plainly (broken_at x) = refused 9
plainly (sound_with h) = resulted h
