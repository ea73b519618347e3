-- `judge_and_write` meets its contract.
use Rattle.text.proofs.TextLaws.{text_stop, text_short, text_fits}
use Rattle.text.proofs.AmountLaws.{handed}
use Rattle.text.proofs.inner.judge_and_write.Goals as goal

pub returns-in_err-a : goal.returns-in_err-a
returns-in_err-a c =
    let y = text_stop c.args.out.now _ _ c.all_segments.ensures.answers (handed c.from_residual.ensures.1) c.in_err-a.was in
    record { answers = y.0; writes = y.1 }

pub returns-then-out-a : goal.returns-then-out-a
returns-then-out-a c =
    let y = text_short c.args.out.now _ _ c.all_segments.ensures.answers c.in_ok-a.was c.if-out-a.true in
    record { answers = y.0; writes = y.1 }

pub returns : goal.returns
returns c =
    let y = text_fits c.args.out.now _ _ c.all_segments.ensures.answers c.in_ok-a.was c.if-out-a.false c.all_segments-2.ensures in
    record { answers = y.0; writes = y.1 }
