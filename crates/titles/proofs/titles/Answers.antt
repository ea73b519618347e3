-- `titles` meets its contract: the judge first, then the rows and the units.
use Rattle.refusal.specs.Outcomes.{after}
use Rattle.text.proofs.AmountLaws.{told_as, handed}
use Rattle.titles.specs.Titles.{titles_of, with_title_rows, with_units}
use Rattle.titles.proofs.TitlesLaws.{judged_events}
use Rattle.titles.proofs.titles.Goals as goal

pub titles_in-requires : goal.titles_in-requires
titles_in-requires c = judged_events _ _ (told_as c.judge_kind.ensures c.in_ok-judge_kind.was)

pub returns-in_err-judge_kind : goal.returns-in_err-judge_kind
unfolding titles_of after with_title_rows with_units
returns-in_err-judge_kind c =
    let e = told_as c.judge_kind.ensures c.in_err-judge_kind.was in
    rw (handed c.from_residual.ensures.1) (record { told = rw e; rows = rw e; units = rw e })

pub returns : goal.returns
unfolding titles_of after
returns c =
    let e = told_as c.judge_kind.ensures c.in_ok-judge_kind.was in
    let r = c.titles_in.ensures in
    record { told = rw e r.told; rows = rw e r.rows; units = rw e r.units }
