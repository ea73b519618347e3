-- `string_text` meets its contract.
use Rattle.text.proofs.AmountLaws.{told_as, handed}
use Rattle.text.proofs.TextLaws.{units_found, replaced_found, units_missing, text_refused}
use mathlib.Core.Path.{sym}
use Rattle.text.specs.Strings.{string_replaced}
use Rattle.text.proofs.inner.string_text.Goals as goal

pub returns-in_err-b : goal.returns-in_err-b
returns-in_err-b c = let a = c.args in
    let e = sym (told_as c.find_string.ensures c.in_err-b.was) in
    let h = text_refused (string_replaced a.s.now a.end a.at a.k) a.out.now _ _ (units_missing a.s.now a.end a.at a.k _ e) in
    rw (handed c.from_residual.ensures.1) (record { answers = h.0; writes = h.1 })

pub returns : goal.returns
returns c = let a = c.args in
    let e = sym (told_as c.find_string.ensures c.in_ok-b.was) in
    rw (units_found a.s.now a.end a.at a.k _ e, replaced_found a.s.now a.end a.at a.k _ e) (rw c.back.ensures.0 at c.text_from.ensures)
