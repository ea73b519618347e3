-- The tie of what is read to the format: where the encoding of a channel lies, what is answered is that channel.
use Prim.Native.Nat.{ℕ, ◌+◌}
use mathlib.Core.Path.{◌≡◌, refl, sym, ap}
use mathlib.Core.List.{List, ◌++◌}
use native.Mathlib.Omega.{arith}
use lib.ListN.{length}
use Rattle.format.proofs.KeptLaws.{laws}
use Rattle.format.specs.Formats.{walks}
use Rattle.format.specs.Lawful.{Lies}
use Rattle.format.specs.Repeats.{Bytes}
use Rattle.format.specs.Laws.OfBytes.{lies_at, lies_split}
use Rattle.format.specs.Laws.OfValues.{bytes_length}
use Rattle.format.specs.Values.{number, bytes_of, behind}
use Rattle.format.specs.Heads.{vals_at}
use Rattle.format.specs.Laws.OfNamed.{vals_there}
use Rattle.format.specs.Told.{sized10}
use Rattle.descriptor.specs.Descriptors.{descriptors, no_tag}
use Rattle.descriptor.specs.Places.{list_at}
use Rattle.descriptor.proofs.ListLaws.{list10_there}
use Rattle.row.specs.Rows.{part_row}
use Rattle.channel.specs.Format.{channel_head, head_of, name_in, tuning_in, service_in, ChannelFields, channel_format}
use Rattle.channel.specs.Walked.{channel}
use Rattle.channel.specs.Fields.{name_at, tuning_at, service_at, descriptors_at, channel_end, channel_at, numbers_row, channel_row}
use Rattle.channel.specs.Values.{descriptors_place, channel_for, row_for}
use Rattle.channel.proofs.ChannelLaws.{channel_ends}

-- the code's promises name a channel without the names of its values; its walk is the same
pub same_channel : (s : List ℕ) (end at : ℕ) → walks channel s end at ≡ walks channel_format s end at
unfolding channel
same_channel s end at = refl

module _ (s : List ℕ) (z : Bytes s) (a : ℕ) (x : ChannelFields) (o : channel_format.Formed (record {}) x) (l : Lies (channel_format.enc x) s a) where
  -- its head, and what stands behind it
  head_and_rest : Lies (bytes_of 30 (number channel_head (head_of x))) s a
      × Lies ((sized10 (descriptors no_tag)).enc ((x.r2, record {}), x.descs)) s (behind channel_head a)
  head_and_rest =
      let p = lies_split (bytes_of 30 (number channel_head (head_of x))) _ s a l in
      (p.0, lies_at _ s _ _ (ap (a +◌) (bytes_length 30 _)) p.1)

  head_there : vals_at channel_head s a 0 ≡ head_of x
  head_there = vals_there channel_head 30 refl s a (head_of x) o.0 head_and_rest.0

  -- its descriptors, with their length before them
  descriptors_placed : (list_at 1024 s (behind channel_head a) ≡ descriptors_place a x)
      × Lies ((descriptors no_tag).enc x.descs) s (descriptors_place a x).start
  descriptors_placed = list10_there no_tag s (behind channel_head a) z x.r2 x.descs o.1 head_and_rest.1

  pub descriptors_lie : Lies ((descriptors no_tag).enc x.descs) s (descriptors_place a x).start
  descriptors_lie = descriptors_placed.1

  descriptors_there : descriptors_at s a ≡ descriptors_place a x
  unfolding descriptors_at
  descriptors_there = descriptors_placed.0

  pub channel_there : channel_at s a ≡ channel_for a x
  unfolding channel_at name_at tuning_at service_at
  channel_there =
      λ i. record {
        name = name_in (head_there i);
        tuning = tuning_in (head_there i);
        service = service_in (head_there i);
        descriptors = descriptors_there i;
      }

  pub row_there : channel_row s a ≡ row_for a x
  unfolding channel_row
  row_there = λ i. numbers_row (channel_there i) ++ part_row (descriptors_there i)

  pub end_there : channel_end s a ≡ a + length (channel_format.enc x)
  unfolding channel
  end_there =
      sym (channel_ends s (a + length (channel_format.enc x)) a _ ((channel_format.law laws (record {})).sound s _ a x o l (omega arith)))
