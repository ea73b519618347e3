-- `fetch` meets its contract.
use mathlib.Core.Path.{sym, ◌∙◌}
use mathlib.Core.Path.{ap, subst}
use Rattle.part.specs.declared.Part.{Part}
use Rattle.shelf.specs.Answers.{After}
use Rattle.lent_memory.specs.Inner.{SmallPart}
use Rattle.lent_memory.proofs.ReplyLaws.{part_small}
use Rattle.lent_memory.specs.Meaning.{shelf_in}
use Rattle.lent.proofs.EndLaws.{broken_said, fetching_said, question_is, reply_is}
use Rattle.lent_memory.proofs.RowLaws.{rows_fit}
use Rattle.lent.proofs.on_book.fetch.Goals as goal

pub returns-then-not-call_fits : goal.returns-then-not-call_fits
returns-then-not-call_fits c = broken_said _ _ _ _ _ _ _ _ (sym c.call_fits.ensures ∙ c.if-not-call_fits.true) c.broken.ensures

pub asked_in-requires : goal.asked_in-requires
asked_in-requires c = question_is _ _ (sym c.call_fits.ensures ∙ c.if-not-call_fits.false)

pub amount_in-requires : goal.amount_in-requires
amount_in-requires c = question_is _ _ (sym c.call_fits.ensures ∙ c.if-not-call_fits.false)

pub tell_fetched-number-requires : goal.tell_fetched-number-requires
tell_fetched-number-requires c = (reply_is _ _ (sym c.call_fits.ensures ∙ c.if-not-call_fits.false), subst SmallPart (sym (ap (λ (r : After Part). r.outcome) c.fetch-r.ensures)) (part_small _ _ _ _))

pub settle-requires : goal.settle-requires
unfolding shelf_in
settle-requires c = rw c.shelf_in-before.ensures (rows_fit _)

pub returns : goal.returns
returns c = fetching_said _ _ _ _ _ _ _ _ _ _ _ (sym c.call_fits.ensures ∙ c.if-not-call_fits.false) c.shelf_in-before.ensures c.settle.ensures _ _ _ _ c.tell_fetched-number.ensures c.asked_in.ensures c.amount_in.ensures c.fetch-r.ensures
