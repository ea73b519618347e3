-- `fields` meets its contract.
use mathlib.Core.Path.{sym, ap, ◌∙◌}
use Rattle.refusal.proofs.OutcomeLaws.{exit}
use Rattle.refusal.specs.Outcomes.{after}
use Rattle.refusal.specs.Outcomes.{outcome}
use Rattle.entry.specs.declared.Entry.TheVariants.{Table}
use Rattle.entry.proofs.EntryLaws.{judged_begins}
use Rattle.reading.specs.Mgts.{fields_of}
use Rattle.reading.proofs.mgts.fields.Goals as goal

pub fields_in-requires : goal.fields_in-requires
fields_in-requires c =
    judged_begins Table c.args.s.now _ (sym c.judge_kind.ensures ∙ ap outcome c.in_ok-judge_kind.was)

pub returns-in_err-judge_kind : goal.returns-in_err-judge_kind
unfolding fields_of
returns-in_err-judge_kind c = exit _ _ c.from_residual.ensures.1 c.judge_kind.ensures c.in_err-judge_kind.was

pub returns : goal.returns
unfolding fields_of after
returns c = rw (← c.judge_kind.ensures, c.in_ok-judge_kind.was) c.fields_in.ensures
