-- `put_service` meets its contract.
use Rattle.channel.specs.Fields.{service_row}
use Rattle.channel.proofs.numbers.put_service.Goals as goal

pub returns : goal.returns
unfolding service_row
returns c = c.put_all.ensures
