-- What is printed for a section, by the tests in their order.
use Prim.Native.Nat.{ℕ, ◌≤◌, ◌<◌}
use mathlib.Core.Path.{◌≡◌, refl, sym, ap}
use mathlib.Core.List.{List}
use Rattle.refusal.specs.Outcomes.{Outcome, refused}
use Rattle.refusal.proofs.TestLaws.{lets_le, stops_le}
use Rattle.kind.specs.Kinds.{kind_of}
use Rattle.section.specs.declared.header.Header.{Header}
use Rattle.section.specs.Sections.{section_by}
use Rattle.lines.specs.Lines.{refusal_shown, outcome_shown, section_shown}

module _ (pid : ℕ) (s : List ℕ) where
  pub no_pid : 8191 < pid → refusal_shown 15 ≡ section_shown pid s
  unfolding section_shown outcome_shown
  no_pid h = ap (outcome_shown pid s) (stops_le 15 pid 8191 (section_by kind_of s) {r = refused 15} h refl)

  pub a_pid : (o : Outcome Header) → pid ≤ 8191 → section_by kind_of s ≡ o → outcome_shown pid s o ≡ section_shown pid s
  unfolding section_shown
  a_pid o h e = ap (outcome_shown pid s) (lets_le 15 pid 8191 (section_by kind_of s) {r = o} h (sym e))
