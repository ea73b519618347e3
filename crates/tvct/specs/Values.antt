-- SCOPE 2.2: what is answered for a value of the TVCT's format, by the record alone, where its encoding lies at a place.
use Rattle.std.specs.Prelude.{ℕ, ◌+◌, length}
use Rattle.format.specs.Repeats.{encs}
use Rattle.descriptor.specs.Descriptors.{descriptors, no_tag}
use Rattle.channel.specs.Format.{channel_format}
use Rattle.tvct.specs.declared.table.Table.{Table}
use Rattle.tvct.specs.Format.{TvctFields}

-- where all channels are passed
abbrev pub channels_end : ℕ → TvctFields → ℕ
channels_end at b = at + 1 + length (encs channel_format.enc b.channels)

-- the table's own fields: the descriptors stand behind the channels, after a length of two bytes
abbrev pub fields_for : ℕ → ℕ → TvctFields → Table
fields_for extension at b = record {
  tsid = extension;
  count = length b.channels;
  descriptors = record { start = channels_end at b + 2; length = length ((descriptors no_tag).enc b.descs) };
}
