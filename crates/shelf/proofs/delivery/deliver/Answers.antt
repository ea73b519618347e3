-- `deliver` meets its contract: what is refused leaves shelf and area, else the section is received.
use lib.ListN.{length}
use mathlib.Core.Path.{◌∙◌, ap, refl, sym}
use Rattle.refusal.specs.Numbers.{number_of}
use Rattle.refusal.specs.Outcomes.{outcome}
use Rattle.shelf.proofs.CarriedLaws.{by_refusal, by_result, delivering_as, going_ready}
use Rattle.shelf.proofs.OwnerLaws.{by_after}
use Rattle.shelf.specs.Calls.{refused_with}
use Rattle.shelf.specs.Delivery.{area_after, delivered, delivering, received_at}
use Rattle.shelf.proofs.delivery.deliver.Goals as goal

pub receive-requires : goal.receive-requires
receive-requires c = going_ready _ _ _ _ _ (sym c.owner_of.ensures ∙ ap outcome c.in-Ok.is)

pub returns-in-Err : goal.returns-in-Err
unfolding delivered area_after
returns-in-Err c = let g = c.args in
    let p = by_after g.area.now g.section.now (refused_with (number_of c.in-Err.k) g.s) (delivering g.s (length g.area.now) g.pid g.section.now)
    (by_refusal _ _ (delivering_as _ _ _ _) c.owner_of.ensures c.in-Err.is) (refl, refl) in
    record { answer = p.0; stored = p.1 }

pub returns-in-Ok : goal.returns-in-Ok
unfolding delivered
returns-in-Ok c = let g = c.args in
    let p = by_after g.area.now g.section.now (received_at g.s c.in-Ok.o.watch c.in-Ok.o.header (length g.section.now)) (delivering g.s (length g.area.now) g.pid g.section.now)
    (by_result _ _ (delivering_as _ _ _ _) c.owner_of.ensures c.in-Ok.is refl) (c.receive.ensures.answer, c.receive.ensures.stored) in
    record { answer = p.0; stored = p.1 }
