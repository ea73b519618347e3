-- `record_for` meets its contract: 14, 15, 19, 20 and 21 in this order.
use mathlib.Core.Path.{◌∙◌, sym}
use Rattle.logic.proofs.LoopLaws.{any_no, any_yes}
use Rattle.refusal.specs.Outcomes.{or_refuse}
use Rattle.shelf_state.proofs.RuleLaws.{rules}
use Rattle.shelf_state.proofs.SearchLaws.{closed_found, room_same, watch_found}
use Rattle.shelf.specs.Inner.{opening}
use Rattle.shelf.proofs.calls.record_for.Goals as goal

pub returns-then-not-obeys_rules : goal.returns-then-not-obeys_rules
unfolding opening or_refuse
returns-then-not-obeys_rules c = rw (sym c.obeys_rules.ensures ∙ c.if-not-obeys_rules.true)

pub returns-then-not-in_range : goal.returns-then-not-in_range
unfolding opening or_refuse
returns-then-not-in_range c = rw (sym c.obeys_rules.ensures ∙ c.if-not-obeys_rules.false, sym c.in_range.ensures ∙ c.if-not-in_range.true)

pub watches_in_use-ws-requires : goal.watches_in_use-ws-requires
watches_in_use-ws-requires c = (rules _ _ (sym c.obeys_rules.ensures ∙ c.if-not-obeys_rules.false)).size.records_16

pub returns-then-find_watch-s : goal.returns-then-find_watch-s
unfolding opening or_refuse
returns-then-find_watch-s c =
    rw (sym c.obeys_rules.ensures ∙ c.if-not-obeys_rules.false, sym c.in_range.ensures ∙ c.if-not-in_range.false, any_yes _ _ (c.find_watch.ensures ∙ watch_found _ _ c.watches_in_use-ws.ensures _) c.if-find_watch-s.true)

pub returns-then-f-s : goal.returns-then-f-s
unfolding opening or_refuse
returns-then-f-s c =
    rw (
      sym c.obeys_rules.ensures ∙ c.if-not-obeys_rules.false,
      sym c.in_range.ensures ∙ c.if-not-in_range.false,
      any_no _ _ (c.find_watch.ensures ∙ watch_found _ _ c.watches_in_use-ws.ensures _) c.if-find_watch-s.false,
      any_no _ _ (c.free_record-f.ensures ∙ closed_found _ _ c.watches_in_use-ws.ensures) c.if-f-s.true,
    )

pub returns-then-not-room : goal.returns-then-not-room
unfolding opening or_refuse
returns-then-not-room c =
    rw (
      sym c.obeys_rules.ensures ∙ c.if-not-obeys_rules.false,
      sym c.in_range.ensures ∙ c.if-not-in_range.false,
      any_no _ _ (c.find_watch.ensures ∙ watch_found _ _ c.watches_in_use-ws.ensures _) c.if-find_watch-s.false,
      any_yes _ _ (c.free_record-f.ensures ∙ closed_found _ _ c.watches_in_use-ws.ensures) c.if-f-s.false,
      sym (c.room.ensures ∙ room_same _ _ c.watches_in_use-ws.ensures _ _) ∙ c.if-not-room.true,
    )

pub returns : goal.returns
unfolding opening or_refuse
returns c =
    rw (
      sym c.obeys_rules.ensures ∙ c.if-not-obeys_rules.false,
      sym c.in_range.ensures ∙ c.if-not-in_range.false,
      any_no _ _ (c.find_watch.ensures ∙ watch_found _ _ c.watches_in_use-ws.ensures _) c.if-find_watch-s.false,
      any_yes _ _ (c.free_record-f.ensures ∙ closed_found _ _ c.watches_in_use-ws.ensures) c.if-f-s.false,
      sym (c.room.ensures ∙ room_same _ _ c.watches_in_use-ws.ensures _ _) ∙ c.if-not-room.false,
      c.free_record-f.ensures ∙ closed_found _ _ c.watches_in_use-ws.ensures,
    )
