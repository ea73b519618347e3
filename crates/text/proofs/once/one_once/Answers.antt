-- `one_once` meets its contract: a way of reading each.
use Rattle.text.proofs.PassLaws.{once_refused, once_wrote}
use Rattle.text.specs.Segments.{units_by}
use Rattle.trees.specs.Which.{table_of}
use Rattle.segment.proofs.PrintedLaws.{by_titles, by_descriptions}
use Rattle.refusal.specs.declared.Refusal.TheVariants.{NotAReadPair}
use mathlib.Core.Path.{refl}
use Rattle.text.proofs.once.one_once.Goals as goal

pub returns-in-Plain : goal.returns-in-Plain
unfolding units_by
returns-in-Plain c = rw c.in-Plain.is (once_wrote c.bytes.ensures)

pub returns-in-Utf16 : goal.returns-in-Utf16
unfolding units_by
returns-in-Utf16 c = rw c.in-Utf16.is (once_wrote c.utf16.ensures)

pub returns-in-Titles : goal.returns-in-Titles
unfolding units_by table_of
returns-in-Titles c =
    let s = c.args.s.now in
    rw (c.in-Titles.is, ← by_titles s) c.compressed_once.ensures

pub returns-in-Descriptions : goal.returns-in-Descriptions
unfolding units_by table_of
returns-in-Descriptions c =
    let s = c.args.s.now in
    rw (c.in-Descriptions.is, ← by_descriptions s) c.compressed_once-in-Descriptions.ensures

pub returns-in-Unread : goal.returns-in-Unread
unfolding units_by
returns-in-Unread c =
    let a = c.args in
    rw c.in-Unread.is (once_refused _ a.o.now a.n NotAReadPair _ refl refl)
