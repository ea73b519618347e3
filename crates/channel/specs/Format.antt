-- SCOPE 2.2: a channel, its values by their names. The six bits are one number here; a table may give them names of its own.
use Rattle.std.specs.Prelude.{ℕ, refl, List, [], ◌∷◌}
use Rattle.format.specs.Formats.{Format, seq, under}
use Rattle.format.specs.Values.{One, Field, bits, reserved, piece, Vals}
use Rattle.format.specs.Named.{named}
use Rattle.format.specs.Told.{sized10}
use Rattle.descriptor.specs.Descriptors.{descriptors, no_tag}
use Rattle.channel.specs.declared.channel.Name.{Name}
use Rattle.channel.specs.declared.channel.Tuning.{Tuning}
use Rattle.channel.specs.declared.channel.Service.{Service}

-- ---- the fields
-- short_name 7×16; r 4, major 10, minor 10, modulation 8, carrier 32, channel_TSID 16, program_number 16; ETM_location 2,
-- access_controlled 1, hidden 1, the six bits, service_type 6, source_id 16
abbrev pub channel_head : List Field
channel_head =
    piece 16 ∷ piece 16 ∷ piece 16 ∷ piece 16 ∷ piece 16 ∷ piece 16 ∷ bits 16 ∷ reserved 4 ∷ bits 10 ∷ bits 10 ∷ bits 8 ∷ bits 32
    ∷ bits 16 ∷ bits 16 ∷ bits 2 ∷ bits 1 ∷ bits 1 ∷ bits 6 ∷ bits 6 ∷ bits 16 ∷ []

-- those; r 6, descriptors_length 10, descriptors
pub record ChannelFields : Type 0 where
  pub name : Name
  pub r1 : ℕ
  pub tuning : Tuning
  pub service : Service
  pub r2 : ℕ
  pub descs : (descriptors no_tag).Val

-- ---- the numbers of the record's fields
-- six numbers before others
abbrev pub six : {A : Type 0} → ℕ → ℕ → ℕ → ℕ → ℕ → ℕ → A → ℕ × (ℕ × (ℕ × (ℕ × (ℕ × (ℕ × A)))))
six a b c d e f x = (a, (b, (c, (d, (e, (f, x))))))

abbrev pub head_of : ChannelFields → Vals channel_head
head_of c =
    let n = c.name in
    let t = c.tuning in
    let v = c.service in
    six n.n0 n.n1 n.n2 n.n3 n.n4 n.n5
    (six n.n6 c.r1 t.major t.minor t.modulation t.carrier
    (six t.channel_tsid t.program_number v.etm_location v.access_controlled v.hidden v.six_bits
    (v.service_type, (v.source_id, record {}))))

abbrev pub name_in : Vals channel_head → Name
name_in v = record {
  n0 = v.0;
  n1 = v.1.0;
  n2 = v.1.1.0;
  n3 = v.1.1.1.0;
  n4 = v.1.1.1.1.0;
  n5 = v.1.1.1.1.1.0;
  n6 = v.1.1.1.1.1.1.0;
}

abbrev pub tuning_in : Vals channel_head → Tuning
tuning_in v = let w = v.1.1.1.1.1.1.1.1 in record {
  major = w.0;
  minor = w.1.0;
  modulation = w.1.1.0;
  carrier = w.1.1.1.0;
  channel_tsid = w.1.1.1.1.0;
  program_number = w.1.1.1.1.1.0;
}

abbrev pub service_in : Vals channel_head → Service
service_in v = let w = v.1.1.1.1.1.1.1.1.1.1.1.1.1.1 in record {
  etm_location = w.0;
  access_controlled = w.1.0;
  hidden = w.1.1.0;
  six_bits = w.1.1.1.0;
  service_type = w.1.1.1.1.0;
  source_id = w.1.1.1.1.1.0;
}

-- ---- the format
abbrev pub channel_format : Format One
channel_format =
    under (seq (named channel_head 30 refl) (sized10 (descriptors no_tag))) {Y = ChannelFields}
    (λ c. (head_of c, ((c.r2, record {}), c.descs)))
    (λ x. record {
      name = name_in x.0;
      r1 = x.0.1.1.1.1.1.1.1.0;
      tuning = tuning_in x.0;
      service = service_in x.0;
      r2 = x.1.0.0;
      descs = x.1.1;
    })
    (λ x. refl) (λ y. refl)
