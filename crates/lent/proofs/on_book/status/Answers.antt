-- `status` meets its contract.
use mathlib.Core.Path.{sym, ◌∙◌}
use mathlib.Core.Path.{ap, subst}
use Rattle.shelf.specs.Answers.{After}
use Rattle.shelf.specs.Views.{Status}
use Rattle.lent_memory.specs.Inner.{SmallStatus}
use Rattle.lent_memory.proofs.ReplyLaws.{status_small}
use Rattle.lent_memory.specs.Meaning.{shelf_in}
use Rattle.lent.proofs.EndLaws.{broken_said, asking_said, question_is, reply_is}
use Rattle.lent_memory.proofs.RowLaws.{rows_fit}
use Rattle.lent.proofs.on_book.status.Goals as goal

pub returns-then-not-call_fits : goal.returns-then-not-call_fits
returns-then-not-call_fits c = broken_said _ _ _ _ _ _ _ _ (sym c.call_fits.ensures ∙ c.if-not-call_fits.true) c.broken.ensures

pub asked_in-requires : goal.asked_in-requires
asked_in-requires c = question_is _ _ (sym c.call_fits.ensures ∙ c.if-not-call_fits.false)

pub tell_status-number-requires : goal.tell_status-number-requires
tell_status-number-requires c = (reply_is _ _ (sym c.call_fits.ensures ∙ c.if-not-call_fits.false), subst SmallStatus (sym (ap (λ (r : After Status). r.outcome) c.status-r.ensures)) (status_small _ _ _))

pub settle-requires : goal.settle-requires
unfolding shelf_in
settle-requires c = rw c.shelf_in-before.ensures (rows_fit _)

pub returns : goal.returns
returns c = asking_said _ _ _ _ _ _ _ _ _ _ _ (sym c.call_fits.ensures ∙ c.if-not-call_fits.false) c.shelf_in-before.ensures c.settle.ensures _ _ _ c.tell_status-number.ensures c.asked_in.ensures c.status-r.ensures
