-- `find_owner` meets its contract: 16, 17 and 18 in this order.
use Prim.Native.Nat.{◌+◌}
use mathlib.Core.Path.{◌∙◌}
use native.Mathlib.Omega.{arith}
use mathlib.Core.Bool.{false, true}
use borrow.Author.Tests.{eq-eqb, le-leb, lt-leb, ne_eqb}
use Rattle.refusal.specs.Outcomes.{or_refuse}
use Rattle.logic.proofs.LoopLaws.{any_no}
use Rattle.shelf_state.proofs.SearchLaws.{watch_found}
use Rattle.shelf_state.specs.Searches.{watch_in}
use Rattle.shelf.proofs.OwnerLaws.{owner_late}
use Rattle.shelf.specs.Delivery.{owner_in}
use Rattle.shelf.proofs.delivery.find_owner.Goals as goal

pub returns-then-h-eq0 : goal.returns-then-h-eq0
unfolding owner_in or_refuse
returns-then-h-eq0 c = rw (eq-eqb _ _ c.if-h-eq0.true)

pub returns-then-w-s : goal.returns-then-w-s
unfolding owner_in or_refuse
returns-then-w-s c = rw (ne_eqb _ _ c.if-h-eq0.false, any_no _ _ (c.find_watch-w.ensures ∙ watch_found _ _ c.watches_in_use.ensures _) c.if-w-s.true)

pub returns-then-h-from : goal.returns-then-h-from
unfolding or_refuse
returns-then-h-from c = let g = c.args in let s = g.s.now in
    owner_late s.watches s.records g.a g.h _ false c.if-h-eq0.false (c.find_watch-w.ensures ∙ watch_found _ _ c.watches_in_use.ensures _) c.if-w-s.false
    (lt-leb (g.h.last + 1) (watch_in s.watches c.find_watch-w.result).quota (omega (arith, c.if-h-from.true, c.from.ensures)))

pub returns : goal.returns
unfolding or_refuse
returns c = let g = c.args in let s = g.s.now in
    owner_late s.watches s.records g.a g.h _ true c.if-h-eq0.false (c.find_watch-w.ensures ∙ watch_found _ _ c.watches_in_use.ensures _) c.if-w-s.false
    (le-leb (g.h.last + 1) (watch_in s.watches c.find_watch-w.result).quota (omega (arith, c.if-h-from.false, c.from.ensures)))
