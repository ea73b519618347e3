-- `receive` meets its contract: the edition, then the section's place and its bytes.
use mathlib.Core.Path.{◌∙◌, ap, sym}
use native.Mathlib.Omega.{arith}
use Rattle.shelf.proofs.OwnerLaws.{area_at, count_after, kept_after, narrow, place_inside}
use Rattle.shelf.specs.Answers.{After}
use Rattle.shelf.specs.Delivery.{quiet}
use Rattle.shelf.proofs.delivery.receive.Goals as goal

pub edit-requires : goal.edit-requires
edit-requires c = let n = narrow _ _ _ _ _ c.requires in (n.watch_16, n.count_64, n.version_8, n.last_8)

pub place_for-i-requires : goal.place_for-i-requires
place_for-i-requires c = count_after _ _ _ _ _ c.requires _ c.edit.ensures

pub offset_bounds-t-i : goal.offset_bounds-t-i
offset_bounds-t-i c = omega (arith, (place_inside _ _ _ _ _ c.requires _ _ c.edit.ensures c.place_for-i.ensures).0)

pub bounds-t-i : goal.bounds-t-i
bounds-t-i c = (place_inside _ _ _ _ _ c.requires _ _ c.edit.ensures c.place_for-i.ensures).0

pub overflow_mul-i : goal.overflow_mul-i
overflow_mul-i c = omega (arith, (place_inside _ _ _ _ _ c.requires _ _ c.edit.ensures c.place_for-i.ensures).0)

pub place_record-requires : goal.place_record-requires
place_record-requires c = let n = narrow _ _ _ _ _ c.requires in (n.watch_8, n.number_8, n.length_16)

pub store-requires : goal.store-requires
store-requires c = (place_inside _ _ _ _ _ c.requires _ _ c.edit.ensures c.place_for-i.ensures).1

pub returns : goal.returns
returns c = let e = kept_after _ _ _ _ _ _ _ c.edit.ensures c.place_for-i.ensures c.place_record.ensures in
    record { answer = sym (ap quiet e); stored = c.store.ensures ∙ area_at _ _ _ _ (ap (λ (x : After _). x.outcome) e) }
