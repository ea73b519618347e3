-- `step_at` meets its contract.
use Rattle.segment.proofs.StepFinds.{step_rest, step_over, step_leaf}
use Rattle.trees.specs.Which.{table_of}
use Rattle.segment.proofs.step_at.Goals as goal

pub returns-then-e-lt2048 : goal.returns-then-e-lt2048
returns-then-e-lt2048 c =
    let a = c.args in
    step_rest (table_of a.titles) a.s.now a.at a.prior a.e c.requires.2 c.if-e-lt2048.true c.rest_at.result c.rest_at.ensures

pub returns-then-s-next : goal.returns-then-s-next
returns-then-s-next c =
    let a = c.args in
    step_over (table_of a.titles) a.s.now a.at a.prior a.e c.requires.2 c.if-e-lt2048.false c.if-s-next.true

pub returns : goal.returns
returns c =
    let a = c.args in
    step_leaf (table_of a.titles) a.s.now a.at a.prior a.e c.requires.2 c.if-e-lt2048.false c.if-s-next.false
