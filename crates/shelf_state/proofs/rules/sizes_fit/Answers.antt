-- `sizes_fit` meets its contract.
use mathlib.Core.Path.{◌∙◌, sym}
use native.Mathlib.Omega.{arith}
use Rattle.shelf_state.proofs.RuleLaws.{in_sizes}
use Rattle.shelf_state.proofs.rules.sizes_fit.Goals as goal

pub overflow_mul-result : goal.overflow_mul-result
overflow_mul-result c = omega (arith, in_sizes _ _ (sym c.sizes_in_range.ensures ∙ c.if-sizes_in_range.true))
