-- `channel_at` meets its contract: part by part.
use Rattle.channel.specs.Fields.{channel_at}
use Rattle.channel.proofs.channel.channel_at.Goals as goal

pub returns : goal.returns
unfolding channel_at
returns c =
    rw (c.descriptors_at.ensures.0, c.service_at.ensures, c.tuning_at.ensures, c.name_at.ensures)
