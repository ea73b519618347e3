-- `on_first` meets its contract: more than sixteen records are refused, else the call on the first n leaves those behind them as they were.
use mathlib.Core.Path.{ap, refl}
use borrow.Author.Tests.{le-leb, lt-leb}
use lib.ListN.{drop}
use Rattle.lent.specs.Calls.{Left, called_first, followed_by}
use Rattle.lent.proofs.by_value.on_first.Goals as goal

pub returns-then-n-gt16 : goal.returns-then-n-gt16
unfolding called_first
returns-then-n-gt16 g c = λ f _. rw (lt-leb _ 16 c.if-n-gt16.true) refl

pub returns-else-n-gt16 : goal.returns-else-n-gt16
unfolding called_first
returns-else-n-gt16 g c = λ f runs. rw (le-leb _ 16 c.if-n-gt16.false)
    (ap (λ (r : Left). followed_by r (drop c.args.n c.args.ws.now)) (runs _ _ _ _ _ _ _ _ _ _ _ c.run.ensures))
