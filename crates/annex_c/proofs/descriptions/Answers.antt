-- `annex_c::descriptions` meets its contract: the constant is the list, byte by byte.
use mathlib.Core.Path.{refl}
use Rattle.annex_c.specs.Table2.{table2}
use Rattle.annex_c.proofs.descriptions.Goals as goal

pub returns : goal.returns
unfolding table2
returns c = refl
