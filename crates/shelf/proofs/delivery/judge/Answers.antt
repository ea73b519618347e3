-- `judge` meets its contract.
use Rattle.shelf.specs.Views.{judged}
use Rattle.shelf.proofs.delivery.judge.Goals as goal

pub returns : goal.returns
unfolding judged
returns c = c.judge_any.ensures
