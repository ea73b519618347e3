-- `close` meets its contract: 14 and 17, or the shelf without the watch.
use native.Mathlib.Omega.{arith}
use mathlib.Core.Path.{◌∙◌, ap, sym}
use Rattle.refusal.specs.Outcomes.{outcome}
use Rattle.shelf.proofs.CarriedLaws.{by_refusal, by_result, closed_as, known_facts}
use Rattle.shelf.specs.Calls.{answered}
use Rattle.shelf.proofs.calls.close.Goals as goal

pub without-requires : goal.without-requires
without-requires c =
    let k = known_facts _ _ _ _ (sym c.watch_of.ensures ∙ ap outcome c.in-Ok.is) in
    let z = k.rules.size in (omega (arith, z.records_16, k.below), z.count_64)

pub returns-in-Err : goal.returns-in-Err
returns-in-Err c = by_refusal _ _ (closed_as _ _ _) c.watch_of.ensures c.in-Err.is

pub returns-in-Ok : goal.returns-in-Ok
returns-in-Ok c = by_result _ _ (closed_as _ _ _) c.watch_of.ensures c.in-Ok.is (ap (answered tt) c.without.ensures)
