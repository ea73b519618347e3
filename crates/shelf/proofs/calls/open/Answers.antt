-- `open` meets its contract: 14, 15, 19, 20 and 21, or the watch in its record.
use mathlib.Core.Path.{◌∙◌, ap, sym}
use Rattle.refusal.specs.Outcomes.{outcome}
use Rattle.shelf_state.specs.Searches.{set_watch}
use Rattle.shelf_state.specs.declared.records.Watch.{Watch}
use Rattle.shelf.proofs.CarriedLaws.{by_refusal, by_result, opened_as, opening_facts}
use Rattle.shelf.specs.Calls.{answered}
use Rattle.shelf.proofs.calls.open.Goals as goal

pub fresh_watch-requires : goal.fresh_watch-requires
fresh_watch-requires c = (opening_facts _ _ _ _ _ (sym c.record_for.ensures ∙ ap outcome c.in-Ok.is)).range

pub set_watch-requires : goal.set_watch-requires
set_watch-requires c = (opening_facts _ _ _ _ _ (sym c.record_for.ensures ∙ ap outcome c.in-Ok.is)).small

pub returns-in-Err : goal.returns-in-Err
returns-in-Err c = by_refusal _ _ (opened_as _ _ _ _) c.record_for.ensures c.in-Err.is

pub returns-in-Ok : goal.returns-in-Ok
returns-in-Ok c = by_result _ _ (opened_as _ _ _ _) c.record_for.ensures c.in-Ok.is
    (ap (answered tt) (c.set_watch.ensures ∙ ap (λ (x : Watch). set_watch c.args.s c.in-Ok.f x) c.fresh_watch.ensures))
