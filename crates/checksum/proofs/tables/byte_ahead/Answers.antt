-- `tables::byte_ahead` meets its contract: its constant is right, and so is its loop (proofs/Turns.antt).
-- Assumes nothing.
use mathlib.Core.Path.{refl, sym, ◌∙◌}
use Prim.Native.Nat.{◌*◌}
use native.Mathlib.Omega.{arith}
use Rattle.checksum.proofs.Turns.{left_low, left_high, turned}
use Rattle.checksum.proofs.tables.byte_ahead.Goals as goal
use Rattle.checksum.proofs.tables.byte_ahead.Goals.{then-q-lt9223372036854775808, else-q-lt9223372036854775808}

pub loop-init : goal.loop-init
loop-init g c = (omega arith, refl)

pub loop-preserved : goal.loop-preserved
loop-preserved g c =
    let l = c.loop in
    let more = c.loop-test.true in
    elim c.if-q-lt9223372036854775808.branch [
      | then-q-lt9223372036854775808 w ↦ left_low _ _ l.q _ _ c.from-one.type_inv more l.invariant w.if-q-lt9223372036854775808.true w.q-is
      | else-q-lt9223372036854775808 w ↦ left_high _ _ l.q _ _ c.from-one.type_inv more l.invariant w.if-q-lt9223372036854775808.false w.q-is
    ]

pub returns : goal.returns
returns g c =
    turned (8 * g.row.BYTES) _ (sym (c.from-one.ensures ∙ c.of_one.ensures)) (omega arith) _ c.loop.q c.loop.counter (omega arith) c.loop.invariant
