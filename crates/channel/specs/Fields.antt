-- SCOPE 2.2: the fields of a channel that begins at a. Each is a selection of what stands at the bits that the format gives it.
use Rattle.std.specs.Prelude.{ℕ, List, [], ◌∷◌, ◌++◌}
use Rattle.format.specs.Values.{behind}
use Rattle.format.specs.Heads.{vals_at}
use Rattle.part.specs.declared.Part.{Part}
use Rattle.descriptor.specs.Places.{list_at, list_end}
use Rattle.row.specs.Rows.{part_row}
use Rattle.channel.specs.declared.channel.Name.{Name}
use Rattle.channel.specs.declared.channel.Tuning.{Tuning}
use Rattle.channel.specs.declared.channel.Service.{Service}
use Rattle.channel.specs.declared.channel.Channel.{Channel}
use Rattle.channel.specs.Format.{channel_head, name_in, tuning_in, service_in}

unfoldable pub name_at : List ℕ → ℕ → Name
name_at s a = name_in (vals_at channel_head s a 0)

unfoldable pub tuning_at : List ℕ → ℕ → Tuning
tuning_at s a = tuning_in (vals_at channel_head s a 0)

unfoldable pub service_at : List ℕ → ℕ → Service
service_at s a = service_in (vals_at channel_head s a 0)

unfoldable pub descriptors_at : List ℕ → ℕ → Part
descriptors_at s a = list_at 1024 s (behind channel_head a)

-- where the channel ends
unfoldable pub channel_end : List ℕ → ℕ → ℕ
channel_end s a = list_end 1024 s (behind channel_head a)

unfoldable pub channel_at : List ℕ → ℕ → Channel
channel_at s a = record { name = name_at s a; tuning = tuning_at s a; service = service_at s a; descriptors = descriptors_at s a }

-- ---- the row of a channel: its numbers in the order of the fields
unfoldable pub name_row : Name → List ℕ
name_row n = n.n0 ∷ n.n1 ∷ n.n2 ∷ n.n3 ∷ n.n4 ∷ n.n5 ∷ n.n6 ∷ []

unfoldable pub tuning_row : Tuning → List ℕ
tuning_row t = t.major ∷ t.minor ∷ t.modulation ∷ t.carrier ∷ t.channel_tsid ∷ t.program_number ∷ []

unfoldable pub service_row : Service → List ℕ
service_row v = v.etm_location ∷ v.access_controlled ∷ v.hidden ∷ v.six_bits ∷ v.service_type ∷ v.source_id ∷ []

-- 19 numbers, in the order of the fields
unfoldable pub numbers_row : Channel → List ℕ
numbers_row c = name_row c.name ++ (tuning_row c.tuning ++ service_row c.service)

-- 21 numbers: those; where the descriptors begin, descriptors_length
unfoldable pub channel_row : List ℕ → ℕ → List ℕ
channel_row s a = numbers_row (channel_at s a) ++ part_row (descriptors_at s a)
