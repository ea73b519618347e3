-- `spot_of` meets its contract.
use mathlib.Core.Path.{sym, ap, ◌∙◌}
use Rattle.refusal.specs.Outcomes.{outcome}
use Rattle.refusal.proofs.OutcomeLaws.{exit, went, handed_on}
use Rattle.entry.specs.Entries.{spot_of}
use Rattle.entry.proofs.EntryLaws.{judged_begins, refused_inside}
use Rattle.entry.proofs.spot_of.Goals as goal

pub spot_in-requires : goal.spot_in-requires
spot_in-requires c =
    let a = c.args in
    let e = rw c.table_of.ensures at c.judge_kind.ensures in
    judged_begins a.entry a.s.now _ (sym e ∙ ap outcome c.in_ok-judge_kind.was)

pub returns-in_err-judge_kind : goal.returns-in_err-judge_kind
unfolding spot_of
returns-in_err-judge_kind c =
    let e = rw c.table_of.ensures at c.judge_kind.ensures in
    (exit _ _ c.from_residual.ensures.1 e c.in_err-judge_kind.was, refused_inside _ (handed_on c.from_residual.ensures.1))

pub returns : goal.returns
unfolding spot_of
returns c =
    let e = rw c.table_of.ensures at c.judge_kind.ensures in
    (went _ e c.in_ok-judge_kind.was c.spot_in.ensures.0, c.spot_in.ensures.1)
