-- `fields` meets its contract.
use mathlib.Core.Path.{sym, ap, ◌∙◌}
use Rattle.refusal.proofs.OutcomeLaws.{exit}
use Rattle.refusal.specs.Outcomes.{after}
use Rattle.refusal.specs.Outcomes.{outcome}
use Rattle.entry.specs.declared.Entry.TheVariants.{Dimension}
use Rattle.entry.proofs.EntryLaws.{judged_begins}
use Rattle.reading.specs.Rrts.{fields_of}
use Rattle.reading.proofs.rrts.fields.Goals as goal

pub fields_in-requires : goal.fields_in-requires
fields_in-requires c =
    judged_begins Dimension c.args.s.now _ (sym c.judge_kind.ensures ∙ ap outcome c.in_ok-h.was)

pub returns-in_err-h : goal.returns-in_err-h
unfolding fields_of
returns-in_err-h c = exit _ _ c.from_residual.ensures.1 c.judge_kind.ensures c.in_err-h.was

pub returns : goal.returns
unfolding fields_of after
returns c = rw (← c.judge_kind.ensures, c.in_ok-h.was) c.fields_in.ensures
