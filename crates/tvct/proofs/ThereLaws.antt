-- The tie of what is read to the format: where an encoding lies, what is answered is what it is the encoding of.
use Prim.Native.Nat.{ℕ, ◌+◌}
use mathlib.Core.Path.{◌≡◌, refl}
use mathlib.Core.List.{List}
use native.Mathlib.Omega.{arith}
use lib.ListN.{length, length-append}
use Rattle.format.specs.Lawful.{Lies}
use Rattle.format.specs.Repeats.{Bytes, encs}
use Rattle.format.specs.Laws.OfBytes.{lies_at, lies_split}
use Rattle.format.specs.Laws.OfValues.{bytes_length}
use Rattle.format.specs.Formats.{walks_all}
use Rattle.format.specs.Values.{bytes_of}
use Rattle.format.specs.Told.{counted8, sized10}
use Rattle.format.proofs.SizedLaws.{counted8_there}
use Rattle.format.proofs.ListedLaws.{Stand}
use Rattle.descriptor.specs.Descriptors.{descriptors, no_tag}
use Rattle.descriptor.specs.Places.{list10, list_at}
use Rattle.descriptor.proofs.ListLaws.{list10_there}
use Rattle.channel.specs.Format.{channel_format}
use Rattle.channel.specs.Walked.{channel}
use Rattle.tvct.specs.Format.{TvctFields, tvct_format}
use Rattle.tvct.specs.Walked.{channels, tvct}
use Rattle.tvct.specs.Fields.{count_at, first_at, fields_at}
use Rattle.tvct.specs.Values.{channels_end, fields_for}

-- the code's promises name the body without the names of its values; its walk is the same
pub same_walk : (s : List ℕ) (end at : ℕ) → walks_all tvct s end at ≡ walks_all tvct_format s end at
unfolding tvct channels channel list10
same_walk s end at = refl

module _ (s : List ℕ) (z : Bytes s) (at end : ℕ) (b : TvctFields) (o : tvct_format.Formed (record {}) b) (l : Lies (tvct_format.enc b) s at)
    (whole : end ≡ at + length (tvct_format.enc b)) where
  -- the channels with their count, and the table's own descriptors with their length
  abbrev listed : List ℕ
  listed = (counted8 channel_format).enc (record {}, b.channels)

  abbrev own : List ℕ
  own = (sized10 (descriptors no_tag)).enc ((b.r, record {}), b.descs)

  listed_length : at + length listed ≡ channels_end at b
  listed_length =
      let n = length-append (bytes_of 1 (0 + length b.channels)) (encs channel_format.enc b.channels) in
      let k = bytes_length 1 (0 + length b.channels) in
      omega arith

  listed_and_own : Lies listed s at × Lies own s (channels_end at b)
  listed_and_own = let i = lies_split listed own s at l in (i.0, lies_at own s _ _ listed_length i.1)

  pub entries_there : (count_at s at ≡ length b.channels) × Stand channel_format s end (first_at at) b.channels
  entries_there =
      let t = counted8_there s z at channel_format b.channels o.0 listed_and_own.0 in
      let n = length-append listed own in
      let k = listed_length in
      (t.0, record { good = o.0.1.1.1; lies = t.1; inside = omega arith })

  own_placed : (list_at 1024 s (channels_end at b) ≡ (fields_for 0 at b).descriptors)
      × Lies ((descriptors no_tag).enc b.descs) s (fields_for 0 at b).descriptors.start
  own_placed = list10_there no_tag s (channels_end at b) z b.r b.descs o.1 listed_and_own.1

  pub own_lie : (extension : ℕ) → Lies ((descriptors no_tag).enc b.descs) s (fields_for extension at b).descriptors.start
  own_lie extension = own_placed.1

  pub fields_there : (extension : ℕ) → fields_at s extension at (channels_end at b) ≡ fields_for extension at b
  fields_there extension =
      let c = entries_there.0 in
      let d = own_placed.0 in
      λ i. record { tsid = extension; count = c i; descriptors = d i }
