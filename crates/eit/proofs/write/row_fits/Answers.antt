-- `row_fits` meets its contract.
use Rattle.std.proofs.Common.{rules, tests}
use Rattle.logic.specs.Loops.{◌&◌}
use Rattle.eit.specs.Given.{row_fits}
use Rattle.eit.proofs.write.row_fits.Goals as goal

pub returns-then-number_at-lt256 : goal.returns-then-number_at-lt256
unfolding row_fits ◌&◌
returns-then-number_at-lt256 c = search (rules, tests)

pub returns-else-number_at-lt256 : goal.returns-else-number_at-lt256
unfolding row_fits ◌&◌
returns-else-number_at-lt256 c = search (rules, tests)
