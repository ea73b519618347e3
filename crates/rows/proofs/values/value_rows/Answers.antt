-- `value_rows` meets its contract: the judge first, then the rows.
use mathlib.Core.Path.{sym, ap, ◌∙◌}
use Rattle.refusal.specs.Outcomes.{outcome, after}
use Rattle.refusal.proofs.OutcomeLaws.{handed_on}
use Rattle.entry.specs.declared.Entry.TheVariants.{Dimension}
use Rattle.rows.specs.Values.{value_rows_of, with_value_rows}
use Rattle.rows.proofs.RowsLaws.{judged_rows}
use Rattle.rows.proofs.values.value_rows.Goals as goal

pub value_rows_in-requires : goal.value_rows_in-requires
value_rows_in-requires c =
    judged_rows Dimension _ _ (sym c.judge_kind.ensures ∙ ap outcome c.in_ok-judge_kind.was)

pub returns-in_err-judge_kind : goal.returns-in_err-judge_kind
unfolding value_rows_of with_value_rows after
returns-in_err-judge_kind c =
    let e = sym c.judge_kind.ensures ∙ ap outcome c.in_err-judge_kind.was in
    record { told = rw e (ap outcome (handed_on c.from_residual.ensures.1)); put = rw e }

pub returns : goal.returns
unfolding value_rows_of after
returns c =
    let e = sym c.judge_kind.ensures ∙ ap outcome c.in_ok-judge_kind.was in
    let r = c.value_rows_in.ensures in
    record { told = rw e r.told; put = rw e r.put }
