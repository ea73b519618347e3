-- `plain_one` meets its contract: a way of reading each.
use Rattle.text.proofs.UnitLaws.{plain_none, wrote_refused}
use Rattle.text.specs.Segments.{units_by}
use Rattle.refusal.specs.declared.Refusal.TheVariants.{NotAReadPair}
use Rattle.text.specs.Inner.{plain_by}
use mathlib.Core.Path.{refl}
use Rattle.text.proofs.segments.plain_one.Goals as goal

pub returns-in-Plain : goal.returns-in-Plain
unfolding plain_by units_by
returns-in-Plain c = rw c.in-Plain.is c.bytes.ensures

pub returns-in-Utf16 : goal.returns-in-Utf16
unfolding plain_by units_by
returns-in-Utf16 c = rw c.in-Utf16.is c.utf16.ensures

pub returns-in-Titles : goal.returns-in-Titles
returns-in-Titles c =
    let a = c.args in
    wrote_refused _ a.out.now a.n NotAReadPair _ (plain_none a.way a.s.now c.in-Titles.is) refl
