-- `lowest_missing` meets its contract: every number before is held.
use mathlib.Core.Path.{◌∙◌}
use native.Mathlib.Omega.{arith}
use borrow.Author.Count.{below_more}
use Rattle.logic.proofs.LoopLaws.{any_no, any_yes}
use Rattle.shelf_state.proofs.SearchLaws.{place_found}
use Rattle.shelf.proofs.InnerLaws.{missing_at, missing_none}
use Rattle.shelf.proofs.inner.lowest_missing.Goals as goal

pub returns-then-find_place-s : goal.returns-then-find_place-s
returns-then-find_place-s c = missing_at _ _ _ (omega (arith, c.wide-n.ensures.0)) _ c.loop-m-test.true c.loop-m.invariant (any_no _ _ (c.find_place.ensures ∙ place_found _ _ c.places_in_use-ps.ensures _ _) c.if-find_place-s.true)

pub loop-m-preserved : goal.loop-m-preserved
loop-m-preserved c = below_more _ _ c.loop-m.invariant (any_yes _ _ (c.find_place.ensures ∙ place_found _ _ c.places_in_use-ps.ensures _ _) c.if-find_place-s.false)

pub returns : goal.returns
returns c = missing_none _ _ _ (omega (arith, c.wide-n.ensures.0)) (λ j l. c.loop-m.invariant j (omega (arith, l, c.loop-m-test.false)))
