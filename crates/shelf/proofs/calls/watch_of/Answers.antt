-- `watch_of` meets its contract: 14 and 17 in this order.
use mathlib.Core.Path.{◌∙◌, sym}
use Rattle.logic.proofs.LoopLaws.{any_no, any_yes}
use Rattle.refusal.specs.Outcomes.{or_refuse}
use Rattle.shelf_state.proofs.RuleLaws.{rules}
use Rattle.shelf_state.proofs.SearchLaws.{watch_found}
use Rattle.shelf.specs.Inner.{known}
use Rattle.shelf.proofs.calls.watch_of.Goals as goal

pub returns-then-not-obeys_rules : goal.returns-then-not-obeys_rules
unfolding known or_refuse
returns-then-not-obeys_rules c = rw (sym c.obeys_rules.ensures ∙ c.if-not-obeys_rules.true)

pub watches_in_use-requires : goal.watches_in_use-requires
watches_in_use-requires c = (rules _ _ (sym c.obeys_rules.ensures ∙ c.if-not-obeys_rules.false)).size.records_16

pub returns-then-w-s : goal.returns-then-w-s
unfolding known or_refuse
returns-then-w-s c = rw (sym c.obeys_rules.ensures ∙ c.if-not-obeys_rules.false, any_no _ _ (c.find_watch-w.ensures ∙ watch_found _ _ c.watches_in_use.ensures _) c.if-w-s.true)

pub returns : goal.returns
unfolding known or_refuse
returns c = rw (sym c.obeys_rules.ensures ∙ c.if-not-obeys_rules.false, any_yes _ _ (c.find_watch-w.ensures ∙ watch_found _ _ c.watches_in_use.ensures _) c.if-w-s.false, c.find_watch-w.ensures ∙ watch_found _ _ c.watches_in_use.ensures _)
