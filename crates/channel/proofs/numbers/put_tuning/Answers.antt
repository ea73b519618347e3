-- `put_tuning` meets its contract.
use Rattle.channel.specs.Fields.{tuning_row}
use Rattle.channel.proofs.numbers.put_tuning.Goals as goal

pub returns : goal.returns
unfolding tuning_row
returns c = c.put_all.ensures
