-- `string_read` meets its contract.
use Rattle.text.proofs.AmountLaws.{told_as, handed}
use Rattle.text.proofs.TextLaws.{units_found, replaced_found, units_missing}
use Rattle.text.proofs.FewLaws.{string_after}
use Rattle.text.proofs.PassLaws.{onced_missing}
use native.Mathlib.Omega.{arith}
use mathlib.Core.Path.{sym}
use Rattle.text.proofs.inner.string_read.Goals as goal

pub segments_once-requires : goal.segments_once-requires
segments_once-requires c =
    let a = c.args in
    let e = sym (told_as c.find_string.ensures c.in_ok-b.was) in
    (c.back.ensures.1, omega (arith, c.requires, string_after a.s.now a.end a.at a.k _ (sym e)))

pub returns-in_err-b : goal.returns-in_err-b
returns-in_err-b c =
    let a = c.args in
    let e = sym (told_as c.find_string.ensures c.in_err-b.was) in
    onced_missing _ _ a.o.now (handed c.from_residual.ensures.1) (units_missing a.s.now a.end a.at a.k _ e)

pub returns : goal.returns
returns c =
    let a = c.args in
    let e = sym (told_as c.find_string.ensures c.in_ok-b.was) in
    rw (units_found a.s.now a.end a.at a.k _ e, replaced_found a.s.now a.end a.at a.k _ e) (rw c.back.ensures.0 at c.segments_once.ensures)
