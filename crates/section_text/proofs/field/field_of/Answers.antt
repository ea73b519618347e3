-- `field_of` meets its contract: the section is judged, then the text found.
use mathlib.Core.Path.{sym, ap, ◌∙◌}
use Rattle.refusal.specs.Outcomes.{after}
use Rattle.refusal.proofs.OutcomeLaws.{exit}
use Rattle.kind.specs.Kinds.{only_of}
use Rattle.refusal.specs.Outcomes.{outcome}
use Rattle.section.specs.Sections.{section_by}
use Rattle.section_text.specs.Fields.{field_of}
use Rattle.section_text.proofs.PlaceLaws.{judged_begun}
use Rattle.section_text.proofs.field.field_of.Goals as goal

pub field_in-requires : goal.field_in-requires
field_in-requires c =
    let s = c.args.s.now in
    judged_begun s c.args.which _
    (ap (λ k. section_by (only_of k) s) (sym c.kind_for.ensures) ∙ sym c.judge_kind.ensures ∙ ap outcome c.in_ok-judge_kind.was)

pub returns-in_err-judge_kind : goal.returns-in_err-judge_kind
unfolding field_of
returns-in_err-judge_kind c =
    rw (← c.kind_for.ensures) (exit _ _ c.from_residual.ensures.1 c.judge_kind.ensures c.in_err-judge_kind.was)

pub returns : goal.returns
unfolding field_of after
returns c =
    rw (← c.kind_for.ensures, ← c.judge_kind.ensures, c.in_ok-judge_kind.was) c.field_in.ensures
