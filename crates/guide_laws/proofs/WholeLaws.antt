-- Every number of a section that was accepted is told as it is.
use Prim.Native.Nat.{ℕ, ◌+◌, ◌*◌, ◌-◌, ◌^◌, ◌≤◌, ◌<◌}
use mathlib.Core.Path.{◌≡◌, sym, subst}
use mathlib.Core.List.{List, map, [], ◌∷◌}
use lib.Dec.{eqb}
use native.Mathlib.Omega.{arith}
use lib.ListN.{length}
use Rattle.bytes_at.proofs.BitLaws.{bits_lt}
use Rattle.refusal.specs.Outcomes.{Outcome, resulted}
use Rattle.refusal.proofs.OutcomeLaws.{after_is, went_on}
use Rattle.kind.specs.declared.Kind.{Kind}
use Rattle.kind.specs.declared.Kind.TheVariants.{Mgt, Tvct, Rrt, Eit, Ett}
use Rattle.kind.specs.Kinds.{only_of, kind_of, table_id_of}
use Rattle.bytes_at.specs.Fields.{byte_at}
use Rattle.bytes_at.specs.Bits.{bits_at}
use Rattle.format.specs.Repeats.{Bytes}
use Rattle.part.specs.Parts.{end_of}
use Rattle.row.specs.Rows.{part_row}
use Rattle.descriptor.specs.Places.{list_at}
use Rattle.mgt.specs.Fields as mgt
use Rattle.channel.specs.Fields as channel
use Rattle.rrt.specs.Fields as rrt
use Rattle.eit.specs.Fields as eit
use Rattle.eit.specs.Questions as event
use Rattle.ett.specs.Fields as ett
use Rattle.eit.specs.declared.event.Title.{Title}
use Rattle.eit.specs.declared.event.Title.TheVariants.{None, NoStrings, Text}
use Rattle.eit.specs.Titles.{title_of}
use Rattle.logic.specs.Choices.{if_eq}
use Rattle.strings.specs.Places.{text_at, text_end}
use Rattle.rating.specs.Ratings.{descriptor_in, text_in}
use Rattle.section.specs.declared.header.Header.{Header}
use Rattle.section.specs.Headers.{header_in}
use Rattle.section.specs.Sections.{section_by}
use Rattle.section.proofs.SectionLaws.{section_sound, section_header, any_header_passed}
use Rattle.entry.specs.declared.Entry.TheVariants.{Table, Channel, Dimension, Event}
use Rattle.entry.specs.Entries.{spot_of, rest_in, value_spot}
use Rattle.reading.specs.Mgts as mgts
use Rattle.reading.specs.Tvcts as tvcts
use Rattle.reading.specs.Rrts as rrts
use Rattle.reading.specs.Eits as eits
use Rattle.reading.specs.Etts as etts
use Rattle.telling.specs.Told.{noted}
use Rattle.telling.specs.Sections.{header_numbers}
use Rattle.telling.specs.Ratings.{rating_numbers, descriptor_numbers, text_numbers}
use Rattle.telling.specs.Tables.{mgt_numbers, defined_numbers, tvct_numbers, channel_numbers, rrt_numbers, dimension_numbers, value_numbers, eit_numbers, event_numbers, ett_numbers, title_sort, title_place_told}
use Rattle.guide_laws.specs.Whole.{Whole, TablesWhole, EventWhole, ListWhole, ToldAsTheyAre, Short}
use Rattle.guide_laws.proofs.AskedLaws.{rating_small, descriptor_small, text_small_in, or_none_whole}
use Rattle.guide_laws.proofs.TextLaws.{fields_whole, texts_whole}
use Rattle.guide_laws.proofs.CountLaws.{counts_whole, written_whole}
use Rattle.guide_laws.proofs.SmallLaws.{Small, small_whole, told_whole, picked, small_join, word_small, judged_size, spot_small, rest_small, value_small, part_small, list12_small, list10_small, text_small, text_end_lem}

table_id_small : (k : Kind) → table_id_of k < 256
table_id_small Mgt = omega arith
table_id_small Tvct = omega arith
table_id_small Rrt = omega arith
table_id_small Eit = omega arith
table_id_small Ett = omega arith

module _ (s : List ℕ) (bytes : Bytes s) where
  header_small : (k : Kind) → Small (header_numbers (header_in k s))
  header_small k =
      let t = table_id_small k in
      (omega arith, (omega (arith, word_small s bytes 3), (omega arith, (omega arith, (omega (arith, bytes 6), (omega (arith, bytes 7), record {}))))))

  header_whole : Whole header_numbers (section_by kind_of s)
  header_whole h e =
      let p = any_header_passed s h (section_header kind_of s h e) in
      subst (λ x. map noted (header_numbers x) ≡ header_numbers x) (sym p.1.fields) (small_whole _ (header_small p.0))

  -- the extension of a section of one kind
  extension_small : (k : Kind) (h : Header) → section_by (only_of k) s ≡ resulted h → h.extension < 65536
  extension_small k h e = rw (section_sound k s h e).0.fields (word_small s bytes 3)

  mgt_whole : Whole mgt_numbers (mgts.fields_of s)
  unfolding mgts.fields_of mgts.fields_in mgt_numbers
  mgt_whole t e =
      let p = after_is (section_by (only_of Mgt) s) _ t e in
      let q = after_is (rest_in Table s) _ t p.1.1 in
      told_whole mgt_numbers _ t q.1.1 (omega (arith, word_small s bytes 9), list12_small s q.0 (omega (arith, rest_small Table s p.0 q.0 p.1.0 q.1.0)))

  defined_small : (a : ℕ) → a ≤ 4096 → Small (defined_numbers (mgt.defined_at s a))
  unfolding defined_numbers mgt.defined_at mgt.descriptors_at
  defined_small a h = (
    omega (arith, bits_lt s (8 * a + 0) 16),
    (
      omega (arith, bits_lt s (8 * a + 19) 13),
      (
        omega (arith, bits_lt s (8 * a + 35) 5),
        (omega (arith, bits_lt s (8 * a + 40) 32), list12_small s (a + 9) (omega arith)),
      ),
    ),
  )

  defined_whole : (i : ℕ) → Whole defined_numbers (mgts.entry_of s i)
  unfolding mgts.entry_of
  defined_whole i d e =
      let p = after_is (spot_of Table s i) _ d e in
      told_whole defined_numbers (mgt.defined_at s p.0) d p.1.1 (defined_small p.0 (spot_small Table s i p.0 p.1.0))

  tvct_whole : Whole tvct_numbers (tvcts.fields_of s)
  unfolding tvcts.fields_of tvcts.fields_in tvct_numbers
  tvct_whole t e =
      let p = after_is (section_by (only_of Tvct) s) _ t e in
      let q = after_is (rest_in Channel s) _ t p.1.1 in
      told_whole tvct_numbers _ t q.1.1
      (omega (arith, extension_small Tvct p.0 p.1.0), (omega (arith, bytes 9), list10_small s q.0 (omega (arith, rest_small Channel s p.0 q.0 p.1.0 q.1.0))))

  channel_small : (a : ℕ) → a ≤ 4096 → Small (channel_numbers (channel.channel_at s a))
  unfolding channel_numbers channel.channel_at channel.numbers_row channel.name_row channel.tuning_row channel.service_row channel.name_at channel.tuning_at channel.service_at channel.descriptors_at
  channel_small a h =
      let f : (o w : ℕ) → bits_at s (8 * a + o) w < 2 ^ w = λ o w. bits_lt s (8 * a + o) w in (
        omega (arith, f 0 16),
        (
          omega (arith, f 16 16),
          (
            omega (arith, f 32 16),
            (
              omega (arith, f 48 16),
              (
                omega (arith, f 64 16),
                (
                  omega (arith, f 80 16),
                  (
                    omega (arith, f 96 16),
                    (
                      omega (arith, f 116 10),
                      (
                        omega (arith, f 126 10),
                        (
                          omega (arith, f 136 8),
                          (
                            omega (arith, f 144 32),
                            (
                              omega (arith, f 176 16),
                              (
                                omega (arith, f 192 16),
                                (
                                  omega (arith, f 208 2),
                                  (
                                    omega (arith, f 210 1),
                                    (
                                      omega (arith, f 211 1),
                                      (
                                        omega (arith, f 212 6),
                                        (
                                          omega (arith, f 218 6),
                                          (omega (arith, f 224 16), list10_small s (a + 30) (omega arith)),
                                        ),
                                      ),
                                    ),
                                  ),
                                ),
                              ),
                            ),
                          ),
                        ),
                      ),
                    ),
                  ),
                ),
              ),
            ),
          ),
        ),
      )

  channel_whole : (i : ℕ) → Whole channel_numbers (tvcts.entry_of s i)
  unfolding tvcts.entry_of
  channel_whole i c e =
      let p = after_is (spot_of Channel s i) _ c e in
      told_whole channel_numbers (channel.channel_at s p.0) c p.1.1 (channel_small p.0 (spot_small Channel s i p.0 p.1.0))

  rrt_small : (x b : ℕ) → x < 65536 → b ≤ 4096 → Small (rrt_numbers (rrt.fields_at s x 9 b))
  unfolding rrt_numbers
  rrt_small x b h g = (
    omega arith,
    (
      omega arith,
      small_join (part_row (text_at s 9)) (byte_at s (text_end s 9) ∷ part_row (list_at 1024 s b)) (text_small s bytes 9 (omega arith))
          (omega (arith, bytes (text_end s 9)), list10_small s b (omega arith)),
    ),
  )

  rrt_whole : Whole rrt_numbers (rrts.fields_of s)
  unfolding rrts.fields_of rrts.fields_in
  rrt_whole t e =
      let p = after_is (section_by (only_of Rrt) s) _ t e in
      let q = after_is (rest_in Dimension s) _ t p.1.1 in
      told_whole rrt_numbers (rrt.fields_at s p.0.extension 9 q.0) t q.1.1
      (rrt_small p.0.extension q.0 (extension_small Rrt p.0 p.1.0) (rest_small Dimension s p.0 q.0 p.1.0 q.1.0))

  dimension_small : (d : ℕ) → d ≤ 4096 → Small (dimension_numbers (rrt.dimension_at s d))
  unfolding dimension_numbers rrt.dimension_at
  dimension_small d h =
      small_join (part_row (text_at s d)) (bits_at s (8 * text_end s d + 3) 1 ∷ rrt.values_at s d ∷ []) (text_small s bytes d (omega arith))
      (omega (arith, bits_lt s (8 * text_end s d + 3) 1), (omega arith, record {}))

  dimension_whole : (i : ℕ) → Whole dimension_numbers (rrts.entry_of s i)
  unfolding rrts.entry_of
  dimension_whole i d e =
      let p = after_is (spot_of Dimension s i) _ d e in
      told_whole dimension_numbers (rrt.dimension_at s p.0) d p.1.1 (dimension_small p.0 (spot_small Dimension s i p.0 p.1.0))

  texts_small : (a : ℕ) → a ≤ 4096 → Small (value_numbers (rrt.texts_at s a))
  unfolding value_numbers rrt.texts_at
  texts_small a h =
      let n = text_end_lem s bytes a (omega arith) in
      small_join (part_row (text_at s a)) (part_row (text_at s (text_end s a))) (text_small s bytes a (omega arith)) (text_small s bytes (text_end s a) (omega arith))

  value_whole : (i j : ℕ) → Whole value_numbers (rrts.value_of s i j)
  unfolding rrts.value_of
  value_whole i j t e =
      let p = after_is (spot_of Dimension s i) _ t e in
      let q = after_is (value_spot s p.0 j) _ t p.1.1 in
      told_whole value_numbers (rrt.texts_at s q.0) t q.1.1 (texts_small q.0 (value_small s i p.0 j q.0 p.1.0 q.1.0))

  eit_whole : Whole eit_numbers (eits.fields_of s)
  unfolding eits.fields_of eit_numbers
  eit_whole t e =
      let p = after_is (section_by (only_of Eit) s) _ t e in
      told_whole eit_numbers _ t p.1.1 (omega (arith, extension_small Eit p.0 p.1.0), (omega (arith, bytes 9), record {}))

  ett_small : (x n : ℕ) → x < 65536 → n ≤ 4096 → Small (ett_numbers (ett.fields_at s x 9 n))
  unfolding ett_numbers ett.fields_at
  ett_small x n h g = (omega arith, (omega (arith, bits_lt s 72 32), part_small _ (omega arith) (omega arith)))

  ett_whole : Whole ett_numbers (etts.fields_of s)
  unfolding etts.fields_of
  ett_whole t e =
      let p = after_is (section_by (only_of Ett) s) _ t e in
      let n = judged_size Ett s p.0 p.1.0 in
      told_whole ett_numbers (ett.fields_at s p.0.extension 9 (length s - 4)) t p.1.1
      (ett_small p.0.extension (length s - 4) (extension_small Ett p.0 p.1.0) (omega arith))

  -- a title has a sort, and stands where its part does or nowhere
  abbrev TitleSmall : Title → Type 0
  TitleSmall t = (title_sort t < 4) × Small (part_row (title_place_told t))

  none_small : TitleSmall None
  none_small = (omega arith, part_small _ (omega arith) (omega arith))

  no_strings_small : TitleSmall NoStrings
  no_strings_small = (omega arith, part_small _ (omega arith) (omega arith))

  title_small : (start n : ℕ) → start < 4294967296 → n < 4294967296 → TitleSmall (title_of s start n)
  unfolding title_of if_eq
  title_small start n h g =
      let there : TitleSmall (Text (record { start = start; length = n })) = (omega arith, part_small _ h g) in
      picked TitleSmall (eqb n 0) _ _ none_small (picked TitleSmall (eqb n 1) _ _ (picked TitleSmall (eqb (byte_at s start) 0) _ _ no_strings_small there) there)

  event_small : (a : ℕ) → a ≤ 4096 → Small (event_numbers (eit.event_at s a))
  unfolding event_numbers eit.event_at eit.title_at eit.title_part eit.descriptors_at text_at
  event_small a h =
      let f : (o w : ℕ) → bits_at s (8 * a + o) w < 2 ^ w = λ o w. bits_lt s (8 * a + o) w in
      let t = title_small (a + 9 + 1) (byte_at s (a + 9)) (omega arith) (omega (arith, bytes (a + 9))) in
      let n = text_end_lem s bytes (a + 9) (omega arith) in (
        omega (arith, f 2 14),
        (
          omega (arith, f 16 32),
          (
            omega (arith, f 50 2),
            (
              omega (arith, f 52 20),
              (
                omega (arith, t.0),
                small_join (part_row (title_place_told (eit.title_at s a))) (part_row (eit.descriptors_at s a)) t.1 (list12_small s (text_end s (a + 9)) (omega arith)),
              ),
            ),
          ),
        ),
      )

  event_whole : (i : ℕ) → Whole event_numbers (eits.entry_of s i)
  unfolding eits.entry_of
  event_whole i d e =
      let p = after_is (spot_of Event s i) _ d e in
      told_whole event_numbers (eit.event_at s p.0) d p.1.1 (event_small p.0 (spot_small Event s i p.0 p.1.0))

  tables_whole : TablesWhole s
  tables_whole = record {
    header = header_whole;
    mgt = mgt_whole;
    defined = defined_whole;
    tvct = tvct_whole;
    channel = channel_whole;
    rrt = rrt_whole;
    dimension = dimension_whole;
    value = value_whole;
    eit = eit_whole;
    event = event_whole;
    ett = ett_whole;
  }

  -- ---- what is asked of an event: its list ends within 9,000 bytes
  list_end_lem : (a : ℕ) → a ≤ 4096 → end_of (eit.descriptors_at s a) ≤ 4294960000
  unfolding eit.descriptors_at list_at
  list_end_lem a h = omega (arith, text_end_lem s bytes (a + 9) (omega arith))

  event_asked : (i : ℕ) → EventWhole s i
  unfolding eits.rating_of eits.descriptor_of eits.advisory_text_of event.rating_at event.event_descriptor event.advisory_text_at
  event_asked i = record {
    rating = λ region dimension r e.
        let p = after_is (spot_of Event s i) _ r e in
        told_whole rating_numbers _ r p.1.1 (rating_small s bytes _ (list_end_lem p.0 (spot_small Event s i p.0 p.1.0)) region dimension (eit.descriptors_at s p.0).start);
    descriptor = λ k d e.
        let p = after_is (spot_of Event s i) _ d e in
        or_none_whole descriptor_numbers (event.event_descriptor s p.0 k) d
        (descriptor_small s bytes _ (list_end_lem p.0 (spot_small Event s i p.0 p.1.0)) k (eit.descriptors_at s p.0).start) p.1.1;
    advisory = λ region t e.
        let p = after_is (spot_of Event s i) _ t e in
        or_none_whole text_numbers (event.advisory_text_at s p.0 region) t
        (text_small_in s bytes _ (list_end_lem p.0 (spot_small Event s i p.0 p.1.0)) region (eit.descriptors_at s p.0).start) p.1.1;
  }

-- ---- a list by itself
if_filled_lem : {A : Type 0} (l : List ℕ) (o : Outcome A) (a : A) → eits.if_filled l o ≡ resulted a → o ≡ resulted a
unfolding eits.if_filled
if_filled_lem l o a e = (went_on 9 (eits.is_filled l) o a e).1

list_whole : (l : List ℕ) → Bytes l → Short l → ListWhole l
list_whole l bytes low = record {
  rating = λ region dimension r e. told_whole rating_numbers _ r (if_filled_lem l _ r e) (rating_small l bytes (length l) (omega arith) region dimension 0);
  descriptor = λ k d e. or_none_whole descriptor_numbers (descriptor_in l (length l) k 0) d (descriptor_small l bytes (length l) (omega arith) k 0) (if_filled_lem l _ d e);
  advisory = λ region t e. or_none_whole text_numbers (text_in l region (length l) 0) t (text_small_in l bytes (length l) (omega arith) region 0) (if_filled_lem l _ t e);
}

pub told_as_they_are : ToldAsTheyAre
told_as_they_are = record {
  section = λ s bytes. record { tables = tables_whole s bytes; event = event_asked s bytes; text = texts_whole s bytes; counts = counts_whole s bytes };
  field = fields_whole;
  list = list_whole;
  written = written_whole;
}
