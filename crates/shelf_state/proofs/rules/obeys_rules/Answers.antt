-- `obeys_rules` meets its contract: the tests give the rules' value.
use mathlib.Core.Path.{◌∙◌, sym}
use native.Mathlib.Omega.{arith}
use Rattle.logic.proofs.LoopLaws.{true_false}
use Rattle.shelf_state.proofs.RuleLaws.{sizes, tested_rules}
use Rattle.shelf_state.proofs.SearchLaws.{room_same, sound_same}
use Rattle.logic.proofs.TestLaws.{joined}
use Rattle.shelf_state.specs.Tests.{tested}
use Rattle.shelf_state.proofs.rules.obeys_rules.Goals as goal
use Rattle.shelf_state.proofs.rules.obeys_rules.Goals.{else-watches_ok, then-watches_ok}

pub returns-then-not-sizes_fit : goal.returns-then-not-sizes_fit
unfolding tested
returns-then-not-sizes_fit c = rw (← tested_rules) (grind (arith, joined))

pub watches_in_use-ws-requires : goal.watches_in_use-ws-requires
watches_in_use-ws-requires c = (sizes _ _ (sym c.sizes_fit.ensures ∙ c.if-not-sizes_fit.false)).records_16

pub places_ok-requires : goal.places_ok-requires
places_ok-requires c = let z = sizes _ _ (sym c.sizes_fit.ensures ∙ c.if-not-sizes_fit.false) in elim c.if-watches_ok.branch [
  | then-watches_ok w ↦ (z.count_64, z.records_16, sym (sound_same _ _ c.watches_in_use-ws.ensures) ∙ sym c.watches_ok.ensures ∙ w.if-watches_ok.true)
  | else-watches_ok w ↦ true_false _ c.if-room.true (w.value-is ∙ w.if-watches_ok.false)
]

pub returns-then-room : goal.returns-then-room
unfolding tested
returns-then-room c = let s = c.args.s.now in
    let e = c.watches_in_use-ws.ensures in
    rw (← tested_rules, ← sound_same s.watches s.records e, ← room_same s.watches s.records e s.count 0) (grind (arith, joined))

pub returns-else-room : goal.returns-else-room
unfolding tested
returns-else-room c = let s = c.args.s.now in
    let e = c.watches_in_use-ws.ensures in
    rw (← tested_rules, ← sound_same s.watches s.records e, ← room_same s.watches s.records e s.count 0) (grind (arith, joined))
