-- `watches_meant` meets its contract: the records so far are watches.
use native.Mathlib.Omega.{arith}
use mathlib.Core.Path.{◌∙◌, ap}
use lib.ListN.{replicate}
use Rattle.shelf_state.specs.declared.records.Watch.{Watch}
use Rattle.lent_memory.proofs.GatherLaws.{taken_none, taken_step}
use Rattle.lent.proofs.by_value.watches_meant.Goals as goal

pub loop-i-init : goal.loop-i-init
loop-i-init c = ap (λ (w : Watch). replicate 16 w) c.blank_watch-blank.ensures ∙ taken_none c.args.ws

pub loop-i-preserved : goal.loop-i-preserved
loop-i-preserved c = taken_step _ _ _ _ _ (omega (arith, c.well_formed.0.1.0.1)) (omega arith) c.loop-i.invariant c.watch_meant.ensures
