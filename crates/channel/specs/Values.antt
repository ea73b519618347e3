-- SCOPE 2.2: what is answered for a channel of the format, where its encoding lies at a.
use Rattle.std.specs.Prelude.{ℕ, ◌+◌, List, ◌++◌, length}
use Rattle.format.specs.Values.{behind}
use Rattle.part.specs.declared.Part.{Part}
use Rattle.descriptor.specs.Descriptors.{descriptors, no_tag}
use Rattle.row.specs.Rows.{part_row}
use Rattle.channel.specs.declared.channel.Channel.{Channel}
use Rattle.channel.specs.Format.{channel_head, ChannelFields}
use Rattle.channel.specs.Fields.{numbers_row}

-- where its descriptors stand: after the head and a length of two bytes
abbrev pub descriptors_place : ℕ → ChannelFields → Part
descriptors_place a x = record { start = behind channel_head a + 2; length = length ((descriptors no_tag).enc x.descs) }

-- the channel
abbrev pub channel_for : ℕ → ChannelFields → Channel
channel_for a x = record { name = x.name; tuning = x.tuning; service = x.service; descriptors = descriptors_place a x }

-- its row
abbrev pub row_for : ℕ → ChannelFields → List ℕ
row_for a x = numbers_row (channel_for a x) ++ part_row (descriptors_place a x)
