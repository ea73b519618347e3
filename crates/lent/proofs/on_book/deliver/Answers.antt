-- `deliver` meets its contract.
use mathlib.Core.Path.{sym, ◌∙◌}
use native.Mathlib.Omega.{arith}
use Rattle.lent_memory.specs.Meaning.{shelf_in}
use Rattle.lent.proofs.EndLaws.{broken_said, delivery_said, question_is}
use Rattle.lent_memory.proofs.RowLaws.{rows_fit}
use Rattle.lent.proofs.on_book.deliver.Goals as goal

pub returns-then-not-call_fits : goal.returns-then-not-call_fits
returns-then-not-call_fits c = broken_said _ _ _ _ _ _ _ _ (sym c.call_fits.ensures ∙ c.if-not-call_fits.true) c.broken.ensures

pub number_at-requires : goal.number_at-requires
number_at-requires c = omega (arith, question_is _ _ (sym c.call_fits.ensures ∙ c.if-not-call_fits.false))

pub settle-requires : goal.settle-requires
unfolding shelf_in
settle-requires c = rw c.shelf_in-before.ensures (rows_fit _)

pub returns : goal.returns
returns c = delivery_said _ _ _ _ _ _ _ _ _ _ _ (sym c.call_fits.ensures ∙ c.if-not-call_fits.false) c.shelf_in-before.ensures c.settle.ensures _ c.change_number.ensures _ _ c.number_at.ensures.0 c.deliver-r.ensures.answer c.deliver-r.ensures.stored
