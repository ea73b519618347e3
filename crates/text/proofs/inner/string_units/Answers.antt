-- `string_units` meets its contract.
use Rattle.text.proofs.TextLaws.{units_found, replaced_found, units_missing}
use Rattle.text.proofs.AmountLaws.{amount_refused, told_as, handed}
use mathlib.Core.Path.{sym}
use Rattle.text.proofs.inner.string_units.Goals as goal

pub returns-in_err-b : goal.returns-in_err-b
returns-in_err-b c = let a = c.args in
    let e = sym (told_as c.find_string.ensures c.in_err-b.was) in
    rw (handed c.from_residual.ensures.1, units_missing a.s.now a.end a.at a.k _ e) (sym (amount_refused _ _))

pub returns : goal.returns
returns c = let a = c.args in
    let e = sym (told_as c.find_string.ensures c.in_ok-b.was) in
    rw (units_found a.s.now a.end a.at a.k _ e, replaced_found a.s.now a.end a.at a.k _ e) (rw c.back.ensures.0 at c.units_from.ensures)
