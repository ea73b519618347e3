-- `standing` meets its contract.
use borrow.Author.Rules.{rules}
use Rattle.text.proofs.AmountLaws.{stands_as}
use Rattle.text.proofs.segments.standing.Goals as goal

pub returns : goal.returns
returns c = stands_as _ _ _ (λ x k p. search rules) c.map_err.ensures.cases
