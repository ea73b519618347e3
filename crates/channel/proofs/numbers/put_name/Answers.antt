-- `put_name` meets its contract.
use Rattle.channel.specs.Fields.{name_row}
use Rattle.channel.proofs.numbers.put_name.Goals as goal

pub returns : goal.returns
unfolding name_row
returns c = c.put_all.ensures
