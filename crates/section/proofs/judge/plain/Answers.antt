-- `plain` meets its contract.
use borrow.Author.Rules.{rules}
use Rattle.section.proofs.OnceLaws.{plain_as}
use Rattle.section.proofs.judge.plain.Goals as goal

pub returns : goal.returns
returns c = plain_as _ _ _ (λ n k p. search rules) (λ x k p. search rules) c.map_err.ensures.cases
