-- An EIT whose reserved bits are ones is written again from its own rows and bytes.
use Prim.Native.Nat.{ℕ, zero, suc, ◌+◌, ◌-◌, ◌*◌, ◌≤◌, ◌<◌}
use mathlib.Core.Path.{◌≡◌, refl, sym, ap, ◌∙◌, subst}
use mathlib.Core.List.{List, [], ◌∷◌, ◌++◌, map}
use native.Mathlib.Omega.{arith}
use lib.ListN.{length, get_or, length-append}
use lib.Seq.{get_or-append-add}
use Rattle.refusal.specs.Outcomes.{resulted}
use Rattle.refusal.proofs.OutcomeLaws.{same_result}
use Rattle.kind.specs.declared.Kind.TheVariants.{Eit}
use Rattle.format.specs.Lawful.{Lies}
use Rattle.format.specs.Repeats.{Bytes, All}
use Rattle.format.specs.Laws.OfValues.{bytes_length}
use Rattle.format.specs.Listed.{all_of}
use Rattle.format.proofs.ListedLaws.{Stand, first_lies, first_inside, rest_stand}
use Rattle.part.specs.Parts.{end_of, bytes_in}
use Rattle.strings.specs.Strings.{text}
use Rattle.descriptor.specs.Descriptors.{descriptors, content_advisory}
use Rattle.row.specs.Rows.{part_row}
use Rattle.eit.specs.Format.{EventFields, event_format}
use Rattle.eit.specs.Given.{title_given, list_given, event_given, events_given}
use Rattle.eit.specs.Values.{fields_for, row_for, OnesEvent, OnesEit}
use Rattle.eit.proofs.ThereLaws.{title_lies, descriptors_lie}
use Rattle.section.specs.Encoding.{Section, encode, WellFormed, OnesHeader, header_of}
use Rattle.section.proofs.EncodingLaws.{encode_bytes, accepts}
use Rattle.entry.specs.declared.Entry.TheVariants.{Event}
use Rattle.entry.specs.Records.{begin_of}
use Rattle.entry.proofs.RecordLaws.{entries_stand}
use Rattle.entry.specs.declared.Entry.TheVariants as row
use Rattle.section_laws.specs.Rows.{rows_told}
use Rattle.section_laws.proofs.TableLaws.{eit_reads_lem}
use Rattle.writing_laws.specs.RoundTrips.{given_of, as_bytes, EitWriter, Inside, GivesEit, WritesEit, event_rows, RewritesEit}
use Rattle.writing_laws.proofs.TestLaws.{header_back}

-- ---- behind a row stand the others
module _ (r rest bytes : List ℕ) (wide : length r ≡ 8) where
  number_later : (n m : ℕ) → 8 + n ≡ m → get_or (r ++ rest) m 0 ≡ get_or rest n 0
  number_later n m e =
      let k : length r + n ≡ m = omega arith in
      sym (ap (λ m. get_or (r ++ rest) m 0) k) ∙ get_or-append-add r rest n 0

  title_later : (a : ℕ) → title_given (r ++ rest) (a + 8) ≡ title_given rest a
  title_later a =
      let x = number_later (a + 4) (a + 8 + 4) (omega arith) in
      let n = number_later (a + 5) (a + 8 + 5) (omega arith) in
      λ i. record { start = x i; length = n i }

  list_later : (a : ℕ) → list_given (r ++ rest) (a + 8) ≡ list_given rest a
  list_later a =
      let x = number_later (a + 6) (a + 8 + 6) (omega arith) in
      let n = number_later (a + 7) (a + 8 + 7) (omega arith) in
      λ i. record { start = x i; length = n i }

  event_later : (a : ℕ) → event_given (r ++ rest) bytes (a + 8) ≡ event_given rest bytes a
  unfolding event_given
  event_later a =
      let x = number_later a (a + 8) (omega arith) in
      let b = number_later (a + 1) (a + 8 + 1) (omega arith) in
      let l = number_later (a + 2) (a + 8 + 2) (omega arith) in
      let n = number_later (a + 3) (a + 8 + 3) (omega arith) in
      let t = title_later a in
      let d = list_later a in
      λ i. record {
        head = record { r1 = 3; id = x i; start = b i; r2 = 3; etm = l i; seconds = n i };
        title = bytes_in bytes (t i);
        r = 15;
        descs = bytes_in bytes (d i);
      }

  events_later : (n a : ℕ) → events_given (r ++ rest) bytes n (a + 8) ≡ events_given rest bytes n a
  unfolding events_given
  events_later zero a = refl
  events_later (suc n) a = let x = event_later a in let xs = events_later n (a + 8) in λ i. x i ∷ xs i

  inside_later : (a : ℕ) → Inside rest bytes a → Inside (r ++ rest) bytes (a + 8)
  inside_later a h = (
    subst (λ p. end_of p ≤ length bytes) (sym (title_later a)) h.0,
    subst (λ p. end_of p ≤ length bytes) (sym (list_later a)) h.1,
  )

-- ---- of an event that lies at a, its own row gives it
row_wide : (a : ℕ) (e : EventFields) → length (row_for a e) ≡ 8
unfolding part_row
row_wide a e = refl

event_size : (e : EventFields) → length (event_format.enc e) ≡ 12 + length (text.enc e.title) + length ((descriptors content_advisory).enc e.descs)
event_size e = simp (length-append, bytes_length) (omega arith)

module _ (s : List ℕ) (a : ℕ) (e : EventFields) (rest : List ℕ) where
  first_gives : Bytes s → event_format.Formed (record {}) e → Lies (event_format.enc e) s a → OnesEvent e
      → as_bytes e ≡ event_given (row_for a e ++ rest) s 0
  unfolding event_given part_row
  first_gives z o l v =
      let h = e.head in
      let t = (title_lies s z a e o l).1 in
      let d = (descriptors_lie s z a e o l).1 in
      λ i. record {
        head = record { r1 = v.0.0 i; id = h.id; start = h.start; r2 = v.0.1.0 i; etm = h.etm; seconds = h.seconds };
        title = sym t i;
        r = v.1 i;
        descs = sym d i;
      }

  first_in : a + length (event_format.enc e) ≤ length s → Inside (row_for a e ++ rest) s 0
  unfolding part_row
  first_in h = let n = event_size e in (omega arith, omega arith)

-- ---- so the rows of all events give them
abbrev rows_of : ℕ → List EventFields → List ℕ
rows_of a es = all_of event_format.enc row_for a es

rows_wide : (a : ℕ) (es : List EventFields) → length (rows_of a es) ≡ 8 * length es
unfolding all_of
rows_wide a [] = refl
rows_wide a (e ∷ es) =
    omega (arith, length-append (row_for a e) (rows_of (a + length (event_format.enc e)) es), row_wide a e, rows_wide (a + length (event_format.enc e)) es)

module _ (s : List ℕ) (end : ℕ) where
  rows_give : Bytes s → (a : ℕ) (es : List EventFields) → Stand event_format s end a es → All OnesEvent es
      → map as_bytes es ≡ events_given (rows_of a es) s (length es) 0
  unfolding events_given all_of
  rows_give z a [] g v = refl
  rows_give z a (e ∷ es) g v =
      let b = a + length (event_format.enc e) in
      let x = first_gives s a e (rows_of b es) z g.good.0 (first_lies event_format s end a e es g) v.0 in
      let xs = rows_give z b es (rest_stand event_format s end a e es g) v.1 ∙ sym (events_later (row_for a e) (rows_of b es) s (row_wide a e) (length es) 0) in
      λ i. x i ∷ xs i

  rows_in : end ≤ length s → (a : ℕ) (es : List EventFields) → Stand event_format s end a es → (i : ℕ) → i < length es
      → Inside (rows_of a es) s (8 * i)
  unfolding all_of
  rows_in f a [] g i h = absurd (omega arith)
  rows_in f a (e ∷ es) g zero h =
      let n = first_inside event_format s end a e es g in
      first_in s a e (rows_of (a + length (event_format.enc e)) es) (omega arith)
  rows_in f a (e ∷ es) g (suc i) h =
      let b = a + length (event_format.enc e) in
      let k : 8 * i + 8 ≡ 8 * suc i = omega arith in
      subst (Inside (row_for a e ++ rows_of b es) s) k
      (inside_later (row_for a e) (rows_of b es) s (row_wide a e) (8 * i) (rows_in f b es (rest_stand event_format s end a e es g) i (omega arith)))

-- they are those that the call for all rows tells
pub rows_told_lem : (y : Section Eit) → rows_told row.Event y ≡ event_rows y
rows_told_lem y = refl

-- ---- a section is written again
module _ (write : EitWriter) (w : WritesEit write) where
  pub eit_again : (y : Section Eit) → WellFormed Eit y → OnesHeader y × OnesEit y.body → (room : ℕ) → length (encode y) ≤ room
      → write (given_of (header_of y)) (length y.body.events) (event_rows y) (encode y) room ≡ resulted (encode y)
  eit_again y o v room m =
      let es = y.body.events in
      let z = encode_bytes Eit y o in
      let a = begin_of Event y in
      let g = entries_stand Event y o in
      let end = length (encode y) - 4 in
      let d : GivesEit (given_of (header_of y)) (length es) (event_rows y) (encode y) y = record {
        good = o;
        header = header_back Eit y v.0;
        whole = rows_wide a es;
        inside = rows_in (encode y) end (omega arith) a es g;
        events = rows_give (encode y) end z a es g v.1;
      } in
      (w (given_of (header_of y)) (length es) (event_rows y) (encode y) room z (encode y)).1 ((y, (d, refl)), m)

  pub rewrites_eit : RewritesEit write
  rewrites_eit y h f q r o room m =
      let p : h ≡ header_of y = same_result h (header_of y) (sym q ∙ accepts Eit y o.0) in
      let t : f ≡ fields_for y.header.extension y.body = same_result f _ (sym r ∙ eit_reads_lem.tells y o.0) in
      (λ i. write (given_of (p i)) (t i).count (event_rows y) (encode y) room) ∙ eit_again y o.0 o.1 room m
