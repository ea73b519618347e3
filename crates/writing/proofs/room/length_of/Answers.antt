-- `length_of` meets its contract.
use mathlib.Core.Path.{sym, ◌∙◌}
use Rattle.refusal.specs.Outcomes.{or_refuse}
use Rattle.writing.proofs.room.length_of.Goals as goal

pub returns-then-length_fits : goal.returns-then-length_fits
unfolding or_refuse
returns-then-length_fits c = rw (sym c.length_fits.ensures ∙ c.if-length_fits.true)

pub returns-else-length_fits : goal.returns-else-length_fits
unfolding or_refuse
returns-else-length_fits c = rw (sym c.length_fits.ensures ∙ c.if-length_fits.false)
