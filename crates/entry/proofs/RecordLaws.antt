-- Entry i of the encoding of a record is entry i of the record, and stands where that says.
use Prim.Native.Nat.{ℕ, suc, ◌+◌, ◌-◌, ◌≤◌}
use mathlib.Core.Path.{◌≡◌, refl, sym, ap, ◌∙◌, subst}
use mathlib.Core.Logic.{⊎_elim}
use mathlib.Core.List.{List}
use native.Mathlib.Nat.{eq-zero-or-pos}
use native.Mathlib.Omega.{arith}
use lib.Dec.{ltb}
use lib.ListN.{length}
use Rattle.bytes_at.proofs.WalkLaws.{standing_to}
use Rattle.bytes_at.specs.Walks.{many, standing}
use Rattle.refusal.specs.Outcomes.{Outcome, refused, resulted, after, or_refuse}
use Rattle.refusal.proofs.TestLaws.{lets_lt, stops_lt}
use Rattle.format.specs.Lawful.{Lies}
use Rattle.format.specs.Repeats.{Bytes, encs}
use Rattle.format.specs.Values.{One}
use Rattle.format.specs.Formats.{Format, walks}
use Rattle.format.specs.Listed.{nth_of}
use Rattle.format.proofs.ListedLaws.{Stand, all_walk, nth_told, nth_absent}
use Rattle.mgt.specs.Walked.{defined}
use Rattle.mgt.proofs.ThereLaws as mgts
use Rattle.channel.specs.Walked.{channel}
use Rattle.tvct.proofs.ThereLaws as tvcts
use Rattle.rrt.specs.Format.{value_format, DimensionFields, dimension_format}
use Rattle.rrt.specs.Walked.{value, dimension}
use Rattle.rrt.specs.Fields.{values_at}
use Rattle.rrt.specs.Values.{first_value_for}
use Rattle.rrt.proofs.ThereLaws as rrts
use Rattle.eit.specs.Walked.{event}
use Rattle.eit.proofs.ThereLaws as eits
use Rattle.section.specs.Encoding.{Section, encode, WellFormed}
use Rattle.section.proofs.EncodingLaws.{body_lies, body_ends, encode_bytes, accepts}
use Rattle.entry.specs.declared.Entry.{Entry}
use Rattle.entry.specs.declared.Entry.TheVariants.{Table, Channel, Dimension, Event}
use Rattle.entry.specs.Entries.{format_of, entry_count, first_entry, entry_walk, spot_in, spot_of, rest_in, value_spot}
use Rattle.entry.specs.Records.{kind_of_entry, start_of, record_of, entries_of, begin_of, of_entry, of_value}

-- ---- what is told of number i, where so many are counted
module _ (f : Format One) (s : List ℕ) (end : ℕ) {A : Type 0} (answer : ℕ → Outcome A) (told : ℕ → f.Val → Outcome A)
    (same : (a : ℕ) (x : f.Val) → f.Formed (record {}) x → Lies (f.enc x) s a → a + length (f.enc x) ≤ end → answer a ≡ told a x)
    (first : ℕ) (xs : List f.Val) (g : Stand f s end first xs) where
  pub counted_told : (i n : ℕ) → n ≡ length xs
      → after (or_refuse 13 (ltb i n) (standing (many (walks f s end) i first))) answer ≡ nth_of f.enc told (refused 13) first xs i
  unfolding after
  counted_told i n c = ⊎_elim
      (λ h.
      let u = nth_told f s end answer told (refused 13) same first xs i g (omega arith) in
      let w = standing_to _ _ u.1.0 in
      rw (sym (lets_lt 13 i n (standing (many (walks f s end) i first)) {r = resulted u.0} (omega arith) w)) u.1.1)
      (λ h.
      let u = nth_absent f s end answer told (refused 13) same first xs i (omega arith) in
      rw (sym (stops_lt 13 i n (standing (many (walks f s end) i first)) {r = refused 13} (omega arith) refl)) (sym u))
      (eq-zero-or-pos (suc i - n))

-- ---- the entries of a record
-- they lie in its encoding one after the other, and as many are counted
counted : (e : Entry) (y : Section (kind_of_entry e)) → WellFormed (kind_of_entry e) y
    → ((entry_count e (encode y) ≡ length (entries_of e y)) × (first_entry e (encode y) ≡ begin_of e y))
    × Stand (record_of e) (encode y) (length (encode y) - 4) (begin_of e y) (entries_of e y)
unfolding entry_count first_entry
counted Table y o =
    let t = mgts.entries_there (encode y) (encode_bytes _ y o) (start_of Table) (length (encode y) - 4) y.body o.body (body_lies _ y o) (body_ends _ y o) in
    ((t.0, refl), t.1)
counted Channel y o =
    let t = tvcts.entries_there (encode y) (encode_bytes _ y o) (start_of Channel) (length (encode y) - 4) y.body o.body (body_lies _ y o) (body_ends _ y o) in
    ((t.0, refl), t.1)
counted Dimension y o =
    let t = rrts.entries_there (encode y) (encode_bytes _ y o) (start_of Dimension) (length (encode y) - 4) y.body o.body (body_lies _ y o) (body_ends _ y o) in
    let f = rrts.first_there (encode y) (encode_bytes _ y o) (start_of Dimension) (length (encode y) - 4) y.body o.body (body_lies _ y o) (body_ends _ y o) in
    ((t.0, f), subst (λ a. Stand dimension_format (encode y) (length (encode y) - 4) a y.body.dimensions) f t.1)
counted Event y o =
    let t = eits.entries_there (encode y) (encode_bytes _ y o) (start_of Event) (length (encode y) - 4) y.body o.body (body_lies _ y o) (body_ends _ y o) in
    ((t.0, refl), t.1)

-- an entry is walked as its record is
same_walk : (e : Entry) (s : List ℕ) (end a : ℕ) → walks (format_of e) s end a ≡ walks (record_of e) s end a
unfolding format_of defined channel dimension event
same_walk Table s end a = refl
same_walk Channel s end a = refl
same_walk Dimension s end a = refl
same_walk Event s end a = refl

module _ (e : Entry) (y : Section (kind_of_entry e)) (o : WellFormed (kind_of_entry e) y) where
  -- the walk past i of them
  entry_walk_lem : (i : ℕ) → entry_walk e (encode y) i ≡ many (walks (record_of e) (encode y) (length (encode y) - 4)) i (begin_of e y)
  unfolding entry_walk
  entry_walk_lem i = λ j. many (λ a. same_walk e (encode y) (length (encode y) - 4) a j) i ((counted e y o).0.1 j)

  -- what is read of the place where entry i begins is what is told of entry i
  module _ {A : Type 0} (answer : ℕ → Outcome A) (told : ℕ → (record_of e).Val → Outcome A)
      (same : (a : ℕ) (x : (record_of e).Val) → (record_of e).Formed (record {}) x → Lies ((record_of e).enc x) (encode y) a
      → a + length ((record_of e).enc x) ≤ length (encode y) - 4 → answer a ≡ told a x) where
    pub spot_in_told : (i : ℕ) → after (spot_in e (encode y) i) answer ≡ of_entry e told i y
    unfolding spot_in
    spot_in_told i =
        ap (λ w. after (or_refuse 13 (ltb i (entry_count e (encode y))) (standing w)) answer) (entry_walk_lem i)
        ∙ counted_told (record_of e) (encode y) (length (encode y) - 4) answer told same (begin_of e y) (entries_of e y) (counted e y o).1 i
        (entry_count e (encode y)) (counted e y o).0.0

    pub spot_told : (i : ℕ) → after (spot_of e (encode y) i) answer ≡ of_entry e told i y
    unfolding spot_of after
    spot_told i = rw (accepts (kind_of_entry e) y o) (spot_in_told i)

  -- their number, where the first begins, how they lie, and what follows them all
  pub count_there : entry_count e (encode y) ≡ length (entries_of e y)
  count_there = (counted e y o).0.0

  pub first_there : first_entry e (encode y) ≡ begin_of e y
  first_there = (counted e y o).0.1

  pub entries_stand : Stand (record_of e) (encode y) (length (encode y) - 4) (begin_of e y) (entries_of e y)
  entries_stand = (counted e y o).1

  pub rest_there : rest_in e (encode y) ≡ resulted (begin_of e y + length (encs (record_of e).enc (entries_of e y)))
  unfolding rest_in
  rest_there =
      ap standing (entry_walk_lem (entry_count e (encode y)))
      ∙ ap (λ n. standing (many (walks (record_of e) (encode y) (length (encode y) - 4)) n (begin_of e y))) count_there
      ∙ sym (standing_to _ _ (all_walk (record_of e) (encode y) (length (encode y) - 4) (begin_of e y) (entries_of e y) (counted e y o).1))

-- ---- the values of a dimension that lies at d
value_walk : (s : List ℕ) (end a : ℕ) → walks value s end a ≡ walks value_format s end a
unfolding value
value_walk s end a = refl

module _ (s : List ℕ) (z : Bytes s) (d : ℕ) (x : DimensionFields) (o : dimension_format.Formed (record {}) x) (l : Lies (dimension_format.enc x) s d)
    (inside : d + length (dimension_format.enc x) ≤ length s - 4) {A : Type 0} (answer : ℕ → Outcome A) (told : ℕ → value_format.Val → Outcome A)
    (same : (a : ℕ) (v : value_format.Val) → value_format.Formed (record {}) v → Lies (value_format.enc v) s a
    → a + length (value_format.enc v) ≤ length s - 4 → answer a ≡ told a v) where
  pub value_told_lem : (j : ℕ) → after (value_spot s d j) answer ≡ of_value told j d x
  unfolding value_spot
  value_told_lem j =
      let t = rrts.values_there s z d x o l (length s - 4) inside in
      let f = rrts.first_value_there s z d x o l in
      let g = subst (λ a. Stand value_format s (length s - 4) a x.values) f t.1 in
      (λ i. after (or_refuse 13 (ltb j (values_at s d)) (standing (many (λ a. value_walk s (length s - 4) a i) j (f i)))) answer)
      ∙ counted_told value_format s (length s - 4) answer told same (first_value_for d x) x.values g j (values_at s d) t.0
