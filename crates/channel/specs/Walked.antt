-- A channel part by part, shut, for proofs: the walk that the code is held to is that of Format.antt (law `same_walk` of `tvct`).
use Rattle.std.specs.Prelude.{refl}
use Rattle.format.specs.Formats.{Format, seq}
use Rattle.format.specs.Values.{One}
use Rattle.format.specs.Named.{named}
use Rattle.format.specs.Told.{sized10}
use Rattle.descriptor.specs.Descriptors.{descriptors, no_tag}
use Rattle.channel.specs.Format.{channel_head}

unfoldable pub channel : Format One
channel = seq (named channel_head 30 refl) (sized10 (descriptors no_tag))
