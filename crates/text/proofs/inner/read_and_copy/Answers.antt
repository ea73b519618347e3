-- `read_and_copy` meets its contract.
use Rattle.text.specs.Strings.{joined_units}
use Rattle.text.proofs.TextLaws.{text_stop, text_short, text_fits}
use Rattle.text.proofs.AmountLaws.{handed}
use Rattle.text.proofs.PassLaws.{copied_all}
use Rattle.text.proofs.inner.read_and_copy.Goals as goal

pub returns-in_err-a : goal.returns-in_err-a
returns-in_err-a c =
    let y = text_stop c.args.out.now _ _ c.segments_once.ensures.wrote.answers (handed c.from_residual.ensures.1) c.in_err-a.was in
    record { answers = y.0; writes = y.1 }

pub returns-then-out-a : goal.returns-then-out-a
returns-then-out-a c =
    let y = text_short c.args.out.now _ _ c.segments_once.ensures.wrote.answers c.in_ok-a.was c.if-out-a.true in
    record { answers = y.0; writes = y.1 }

pub returns : goal.returns
returns c =
    let a = c.args in
    let o = c.segments_once.ensures in
    let w = copied_all (joined_units a.s.now a.end a.m a.from) _ a.out.now _ _ _ _ _ o c.in_ok-a.was c.segments_once.array_long c.copy_units.ensures in
    let y = text_fits a.out.now _ _ o.wrote.answers c.in_ok-a.was c.if-out-a.false w in
    record { answers = y.0; writes = y.1 }
