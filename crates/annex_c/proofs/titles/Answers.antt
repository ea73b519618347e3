-- `annex_c::titles` meets its contract: the constant is the list, byte by byte.
use mathlib.Core.Path.{refl}
use Rattle.annex_c.specs.Table1.{table1}
use Rattle.annex_c.proofs.titles.Goals as goal

pub returns : goal.returns
unfolding table1
returns c = refl
