-- `rows_sound` meets its contract: those that are left decide.
use Prim.Native.Nat.{◌-◌}
use mathlib.Core.Path.{sym, ◌∙◌}
use native.Mathlib.Omega.{arith}
use Rattle.eit.proofs.EventsLaws.{one_less}
use Rattle.eit.proofs.GivenLaws.{next_row, each_sound, each_on, each_stop, each_none}
use Rattle.eit.proofs.write.rows_sound.Goals as goal

pub returns-then-not-row_sound : goal.returns-then-not-row_sound
returns-then-not-row_sound c = let l = c.loop-i in
    each_stop (each_sound _ _) (c.args.n - l.i) _ (omega arith) (sym c.row_sound.ensures ∙ c.if-not-row_sound.true) ∙ l.invariant

pub loop-i-preserved : goal.loop-i-preserved
loop-i-preserved c = let l = c.loop-i in
    let f = sym c.row_sound.ensures ∙ c.if-not-row_sound.false in
    rw (one_less c.args.n l.i, next_row l.i) (each_on (each_sound _ _) (c.args.n - l.i) _ (omega arith) f ∙ l.invariant)

pub returns : goal.returns
returns c = each_none (each_sound _ _) (c.args.n - c.loop-i.i) _ (omega arith) ∙ c.loop-i.invariant
