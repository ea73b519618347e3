-- SCOPE 2.2: the body of a TVCT, and its values by their names.
use Rattle.std.specs.Prelude.{ℕ, refl, List}
use Rattle.format.specs.Formats.{Filling, seq, exact, under_all}
use Rattle.format.specs.Values.{One}
use Rattle.format.specs.Told.{counted8, sized10}
use Rattle.descriptor.specs.Descriptors.{descriptors, no_tag}
use Rattle.channel.specs.Format.{ChannelFields, channel_format}

-- count 8, and the channels; r 6, length 10, descriptors
pub record TvctFields : Type 0 where
  pub channels : List ChannelFields
  pub r : ℕ
  pub descs : (descriptors no_tag).Val

abbrev pub tvct_format : Filling One
tvct_format =
    under_all (exact (seq (counted8 channel_format) (sized10 (descriptors no_tag)))) {Y = TvctFields}
    (λ b. ((record {}, b.channels), ((b.r, record {}), b.descs)))
    (λ x. record { channels = x.0.1; r = x.1.0.0; descs = x.1.1 })
    (λ x. refl) (λ y. refl)
