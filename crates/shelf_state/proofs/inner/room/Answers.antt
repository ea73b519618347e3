-- `room` meets its contract: the quotas so far and what is left are all the places.
use Prim.Native.Nat.{◌+◌, ℕ}
use lib.ListN.{length}
use native.Mathlib.Omega.{arith}
use borrow.Author.Rules.{rules}
use Rattle.logic.proofs.LoopLaws.{no_leb, sum_grows, sum_more, sum_none}
use Rattle.shelf_state.specs.Searches.{watch_in, promised_in}
use Rattle.shelf_state.specs.Rules.{quota_of}
use Rattle.shelf_state.proofs.inner.room.Goals as goal

pub loop-w-init : goal.loop-w-init
loop-w-init c = omega (arith, sum_none (λ i. quota_of (watch_in c.args.ws.now i)))

pub returns-then-q-left : goal.returns-then-q-left
returns-then-q-left c = let a = c.args in
    let i = c.loop-w.w-index in
    let f : ℕ → ℕ = λ i. quota_of (watch_in a.ws.now i) in
    no_leb (promised_in a.ws.now (length a.ws.now) + a.extra) a.places (omega (arith, sum_more f i, sum_grows f (length a.ws.now) (i + 1) (search rules), c.quota_of-q.ensures))

pub loop-w-preserved : goal.loop-w-preserved
loop-w-preserved c = let ws = c.args.ws.now in
    let i = c.loop-w.w-index in
    omega (arith, sum_more (λ i. quota_of (watch_in ws i)) i, c.quota_of-q.ensures)
