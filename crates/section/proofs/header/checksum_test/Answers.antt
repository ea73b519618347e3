-- `checksum_test` meets its contract: 6, then the others.
use Rattle.section.specs.Headers.{checksum_test}
use mathlib.Core.Path.{refl, sym, ◌∙◌}
use Rattle.refusal.proofs.TestLaws.{lets, stops}
use Rattle.section.proofs.header.checksum_test.Goals as goal

pub returns-then-not-is_sound : goal.returns-then-not-is_sound
unfolding checksum_test
returns-then-not-is_sound c = stops _ _ (sym c.is_sound.ensures ∙ c.if-not-is_sound.true) refl

pub returns : goal.returns
unfolding checksum_test
returns c = lets _ _ (sym c.is_sound.ensures ∙ c.if-not-is_sound.false) c.number_tests.ensures
