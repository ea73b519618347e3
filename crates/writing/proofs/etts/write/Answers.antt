-- `write` meets its contract: the tests, then the section.
use mathlib.Core.Path.{sym, ap, ◌∙◌}
use Rattle.refusal.specs.Outputs.{output_after}
use Rattle.refusal.specs.Outcomes.{outcome}
use Rattle.refusal.proofs.OutcomeLaws.{handed_on}
use Rattle.writing.proofs.OnceLaws.{buffer_keeps}
use Rattle.writing.proofs.EttLaws.{ett_passed}
use Rattle.writing.proofs.etts.write.Goals as goal

pub returns-in_err-n : goal.returns-in_err-n
returns-in_err-n c =
    let g = c.args in
    record { answers = ap outcome (handed_on c.from_residual.ensures.1 ∙ sym c.in_err-n.was) ∙ c.check.ensures; writes = sym (buffer_keeps g.out.now _ _ _ c.check.ensures c.in_err-n.was) }

pub put-requires : goal.put-requires
put-requires c =
    let e = sym (ap outcome c.in_ok-n.was) ∙ c.check.ensures in
    (ett_passed _ _ _ _ _ e).0

pub returns : goal.returns
returns c =
    let g = c.args in
    let e = sym (ap outcome c.in_ok-n.was) ∙ c.check.ensures in
    record { answers = e; writes = c.put.ensures ∙ ap (output_after g.out.now) (sym (ett_passed _ _ _ _ _ e).1) }
