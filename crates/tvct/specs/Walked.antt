-- The body of a TVCT part by part, shut, for proofs: the walk that the code is held to is that of Format.antt (law `same_walk`).
use Rattle.format.specs.Formats.{Format, Filling, seq, exact}
use Rattle.format.specs.Values.{One}
use Rattle.format.specs.Told.{counted8}
use Rattle.descriptor.specs.Descriptors.{no_tag}
use Rattle.descriptor.specs.Places.{list10}
use Rattle.channel.specs.Walked.{channel}

-- count 8, and the channels
unfoldable pub channels : Format One
channels = counted8 channel

unfoldable pub tvct : Filling One
tvct = exact (seq channels (list10 no_tag))
