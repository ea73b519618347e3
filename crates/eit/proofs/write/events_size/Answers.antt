-- `events_size` meets its contract: what was added and what is left are the whole.
use Prim.Native.Nat.{◌-◌, ◌*◌}
use native.Mathlib.Omega.{arith}
use Rattle.eit.proofs.EventsLaws.{all_left, one_less}
use Rattle.eit.proofs.GivenLaws.{next_row, size_first, size_none, size_most}
use Rattle.eit.proofs.write.events_size.Goals as goal

pub loop-i-init : goal.loop-i-init
loop-i-init c = let r = c.requires in (omega (arith, size_most _ _ _ r.1.1), rw all_left (omega arith))

pub loop-i-preserved : goal.loop-i-preserved
loop-i-preserved c = let l = c.loop-i in
    let t = size_first c.args.rows.now (c.args.n - l.i) (8 * l.i) (omega arith) in
    rw (one_less c.args.n l.i, next_row l.i) (l.invariant.0, omega (arith, t, c.number_at.ensures.0, c.number_at-in-loop-i.ensures.0))

pub returns : goal.returns
returns c = let l = c.loop-i in
    omega (arith, size_none c.args.rows.now (c.args.n - l.i) (8 * l.i) (omega arith))
