-- `symbol_at` meets its contract.
use Rattle.trees.specs.Which.{table_of}
use Rattle.segment.proofs.StepFinds.{step_made}
use Rattle.segment.proofs.symbol_at.Goals as goal

pub step_at-requires : goal.step_at-requires
step_at-requires c =
    let a = c.args in
    let p = c.requires in
    let w = c.window in
    (p.0, p.1, step_made (table_of a.titles) a.s.now a.at a.prior w.result c.step_of-e.result w.ensures c.step_of-e.ensures.0 c.step_of-e.ensures.1)
