-- `rows` meets its contract: the judge first, then the rows.
use mathlib.Core.Path.{sym, ap, ◌∙◌}
use Rattle.refusal.specs.Outcomes.{outcome, after}
use Rattle.refusal.proofs.OutcomeLaws.{handed_on}
use Rattle.rows.specs.Rows.{rows_of, with_rows}
use Rattle.rows.proofs.RowsLaws.{judged_rows}
use Rattle.rows.proofs.rows.Goals as goal

pub rows_in-requires : goal.rows_in-requires
rows_in-requires c =
    let e = sym (rw c.table_of.ensures at c.judge_kind.ensures) ∙ ap outcome c.in_ok-judge_kind.was in
    judged_rows _ _ _ e

pub returns-in_err-judge_kind : goal.returns-in_err-judge_kind
unfolding rows_of with_rows after
returns-in_err-judge_kind c =
    let e = sym (rw c.table_of.ensures at c.judge_kind.ensures) ∙ ap outcome c.in_err-judge_kind.was in
    record { told = rw e (ap outcome (handed_on c.from_residual.ensures.1)); put = rw e }

pub returns : goal.returns
unfolding rows_of after
returns c =
    let e = sym (rw c.table_of.ensures at c.judge_kind.ensures) ∙ ap outcome c.in_ok-judge_kind.was in
    let r = c.rows_in.ensures in
    record { told = rw e r.told; put = rw e r.put }
