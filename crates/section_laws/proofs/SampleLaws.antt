-- The sample records are well formed; and the bytes of one.
use Prim.Native.Nat.{ℕ, ◌≤◌, ◌<◌}
use mathlib.Core.Path.{◌≡◌, refl}
use mathlib.Core.List.{List, [], ◌∷◌, ◌++◌}
use native.Mathlib.Omega.{arith}
use lib.ListN.{length}
use Rattle.kind.specs.declared.Kind.{Kind}
use Rattle.kind.specs.declared.Kind.TheVariants.{Mgt, Tvct, Rrt, Eit, Ett}
use Rattle.kind.specs.Kinds.{limits_of}
use Rattle.format.specs.Repeats.{All}
use Rattle.format.specs.Values.{bytes_of}
use Rattle.format.specs.Laws.OfValues.{bytes_bytes}
use Rattle.format.specs.Told.{sized8}
use Rattle.strings.specs.Strings.{segment, string, structure, text, as_text}
use Rattle.descriptor.specs.Descriptors.{region, descriptors, content_advisory}
use Rattle.channel.specs.Format.{channel_format}
use Rattle.rrt.specs.Format.{DimensionFields, dimension_format}
use Rattle.eit.specs.Format.{event_format}
use Rattle.eit.specs.Values.{OnesEit}
use Rattle.section.specs.Bodies.{body_format}
use Rattle.section.specs.Encoding.{Section, length_with, unsealed, body_bytes, WellFormed, OnesHeader}
use Rattle.section_laws.specs.Samples.{nothing, no_strings, tea_segment, tea_string, tea, no_descriptors, region_one, advised, tea_channel, tea_event, dimension_of, named, section, bare, full}

-- ---- their parts
pub tea_ok : structure.Formed (record {}) tea
unfolding tea bytes_of
tea_ok =
    let g : segment.Formed (record {}) tea_segment = (omega arith, (omega arith, (refl, bytes_bytes 3 0x546561 (omega arith)))) in
    let x : string.Formed (record {}) tea_string = (omega arith, (omega arith, (refl, (g, record {})))) in
    (record {}, (omega arith, (refl, (x, record {}))))

sized_tea_ok : (sized8 text).Formed (record {}) (record {}, as_text tea)
unfolding as_text tea bytes_of
sized_tea_ok = (record {}, (omega arith, (refl, tea_ok)))

advised_ok : (descriptors content_advisory).Formed (record {}) advised
unfolding advised as_text tea bytes_of
advised_ok =
    let g : region.Formed (record {}) region_one = (omega arith, sized_tea_ok) in
    ((omega arith, (omega arith, (refl, (refl, (omega arith, (omega arith, (refl, (g, record {})))))))), record {})

dimension_ok : (t : text.Val) → (sized8 text).Formed (record {}) (record {}, t) → dimension_format.Formed (record {}) (dimension_of t)
dimension_ok t o = (o, (omega arith, (omega arith, (omega arith, (refl, ((o, o), record {}))))))

named_ok : (t : text.Val) (more : List DimensionFields) → (sized8 text).Formed (record {}) (record {}, t) → All (dimension_format.Formed (record {})) more
    → length more < 255 → (body_format Rrt).Formed (record {}) (named t more)
unfolding no_descriptors
named_ok t more o os h = (o, ((record {}, (omega (arith, h), (omega (arith, h), (refl, (dimension_ok t o, os))))), omega arith))

-- ---- the records
good : (k : Kind) (n : ℕ) (b : (body_format k).Val) → (body_format k).Formed (record {}) b
    → (n < 65536) × (((limits_of k).smallest ≤ length_with (length ((body_format k).enc b))) × (length_with (length ((body_format k).enc b)) ≤ (limits_of k).largest))
    → WellFormed k (section n b)
good k n b o h = record {
  r1 = omega arith;
  extension = h.0;
  r2 = omega arith;
  version = omega arith;
  current = omega arith;
  ordered = omega arith;
  last = omega arith;
  smallest = h.1.0;
  largest = h.1.1;
  body = o;
}

pub bare_good : (k : Kind) → WellFormed k (bare k)
unfolding nothing no_strings no_descriptors bytes_of
bare_good Mgt = omega arith
bare_good Tvct = omega arith
bare_good Rrt = good Rrt 0 _ (named_ok nothing [] (omega arith) (record {}) (omega arith)) (omega arith)
bare_good Eit = omega arith
bare_good Ett = omega arith

pub full_good : (k : Kind) → WellFormed k (full k)
unfolding advised no_descriptors as_text tea bytes_of
full_good Mgt = omega arith
full_good Tvct =
    let c : channel_format.Formed (record {}) tea_channel = (omega arith, omega arith) in
    good Tvct 7 _ ((record {}, (omega arith, (refl, (c, record {})))), omega arith) (omega arith)
full_good Rrt =
    good Rrt 7 _ (named_ok (as_text tea) (dimension_of (as_text tea) ∷ []) sized_tea_ok (dimension_ok (as_text tea) sized_tea_ok, record {}) (omega arith)) (omega arith)
full_good Eit =
    let v : event_format.Formed (record {}) (tea_event advised) = (omega arith, (sized_tea_ok, (omega arith, (omega arith, (refl, advised_ok))))) in
    good Eit 7 _ (record {}, (omega arith, (refl, (v, record {})))) (omega arith)
full_good Ett = good Ett 7 _ (omega arith, tea_ok) (omega arith)

-- and their reserved bits are ones
pub full_ones : (k : Kind) → OnesHeader (full k)
full_ones Mgt = (refl, refl)
full_ones Tvct = (refl, refl)
full_ones Rrt = (refl, refl)
full_ones Eit = (refl, refl)
full_ones Ett = (refl, refl)

pub full_events_ones : OnesEit (full Eit).body
full_events_ones = (((refl, (refl, record {})), refl), record {})

-- ---- the bytes of an EIT with the event and no descriptors, but for its checksum: the header; the count and the event's head; the
-- title; the length of the descriptors
abbrev tea_section : Section Eit
tea_section = section 7 (record { events = tea_event (no_descriptors content_advisory) ∷ [] })

pub tea_bytes : unsealed Eit tea_section.header (body_bytes tea_section)
    ≡ (0xCB ∷ 0xF0 ∷ 34 ∷ 0 ∷ 7 ∷ 0xC7 ∷ 0 ∷ 0 ∷ 0 ∷ [])
    ++ ((1 ∷ 0xC0 ∷ 5 ∷ 0 ∷ 0 ∷ 3 ∷ 232 ∷ 0xC0 ∷ 7 ∷ 8 ∷ [])
    ++ ((11 ∷ 1 ∷ 101 ∷ 110 ∷ 103 ∷ 1 ∷ 0 ∷ 0 ∷ 3 ∷ 84 ∷ 101 ∷ 97 ∷ []) ++ (0xF0 ∷ 0 ∷ [])))
unfolding no_descriptors as_text tea bytes_of
tea_bytes = refl
