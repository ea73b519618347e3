-- `rows_fit` meets its contract: those that are left decide.
use Prim.Native.Nat.{◌-◌}
use mathlib.Core.Path.{sym, ◌∙◌}
use native.Mathlib.Omega.{arith}
use Rattle.eit.proofs.EventsLaws.{one_less}
use Rattle.eit.proofs.GivenLaws.{next_row, each_fits, each_on, each_stop, each_none}
use Rattle.eit.proofs.write.rows_fit.Goals as goal

pub returns-then-not-row_fits : goal.returns-then-not-row_fits
returns-then-not-row_fits c = let l = c.loop-i in
    each_stop (each_fits _) (c.args.n - l.i) _ (omega arith) (sym c.row_fits.ensures ∙ c.if-not-row_fits.true) ∙ l.invariant

pub loop-i-preserved : goal.loop-i-preserved
loop-i-preserved c = let l = c.loop-i in
    let f = sym c.row_fits.ensures ∙ c.if-not-row_fits.false in
    rw (one_less c.args.n l.i, next_row l.i) (each_on (each_fits _) (c.args.n - l.i) _ (omega arith) f ∙ l.invariant)

pub returns : goal.returns
returns c = each_none (each_fits _) (c.args.n - c.loop-i.i) _ (omega arith) ∙ c.loop-i.invariant
