-- `put_section` meets its contract: 15, then the judge.
use mathlib.Core.Path.{sym, ap, ◌∙◌}
use native.Mathlib.Omega.{arith}
use Rattle.refusal.specs.Outcomes.{outcome}
use Rattle.lines.specs.Lines.{outcome_shown}
use Rattle.lines.proofs.SectionLaws.{no_pid, a_pid}
use Rattle.lines.proofs.sections.put_section.Goals as goal

pub returns-then-pid-gt8191 : goal.returns-then-pid-gt8191
returns-then-pid-gt8191 c =
    let a = c.args in
    rw (no_pid a.pid a.s.now (omega (arith, c.if-pid-gt8191.true))) at c.put_refusal.ensures

pub returns-in-Err : goal.returns-in-Err
unfolding outcome_shown
returns-in-Err c =
    let j = sym c.judge_any.ensures ∙ ap outcome c.in-Err.is in
    rw (a_pid c.args.pid _ _ (omega (arith, c.if-pid-gt8191.false)) j) at c.put_refusal-in-Err.ensures

pub returns-in-Ok : goal.returns-in-Ok
returns-in-Ok c =
    let j = sym c.judge_any.ensures ∙ ap outcome c.in-Ok.is in
    rw (a_pid c.args.pid _ _ (omega (arith, c.if-pid-gt8191.false)) j) at c.put_sound.ensures
