-- An EIT that is written is the encoding of the record given, and no other.
use Prim.Native.Nat.{ℕ, zero, suc, ◌+◌, ◌*◌, ◌≤◌, ◌<◌}
use mathlib.Core.Path.{◌≡◌, refl, sym, ap, ◌∙◌, subst}
use mathlib.Core.Bool.{true}
use mathlib.Core.List.{List, [], ◌∷◌, ◌++◌, map}
use native.Mathlib.Omega.{arith}
use lib.ListN.{length, length-append, length-map}
use borrow.Author.Tests.{ltb-true, eqb-true, lt-ltb, eq-eqb}
use Rattle.logic.proofs.LoopLaws.{and_left, and_right, and_i}
use Rattle.std.specs.Prelude.{Ok}
use Rattle.refusal.specs.Outcomes.{resulted}
use Rattle.kind.specs.declared.Kind.TheVariants.{Eit}
use Rattle.format.proofs.KeptLaws.{laws}
use Rattle.format.specs.Repeats.{Bytes, All, encs}
use Rattle.format.specs.Formats.{Filling, any_bytes}
use Rattle.format.specs.Values.{One, Fit, bytes_of}
use Rattle.format.specs.Laws.OfBytes.{part_length}
use Rattle.format.specs.Laws.OfValues.{bytes_length}
use Rattle.format.proofs.RelocationLaws.{own_bytes}
use Rattle.part.specs.declared.Part.{Part}
use Rattle.part.specs.Parts.{end_of, bytes_in}
use Rattle.strings.specs.Strings.{text}
use Rattle.descriptor.specs.Descriptors.{descriptors, content_advisory}
use Rattle.eit.specs.Format.{event_head, head_of, EventFields, EventOf, event_of, event_format, EitFields, eit_of, eit_format}
use Rattle.eit.specs.Given.{head_given, title_given, list_given, event_given, events_given, row_fits, rows_fit, part_sound, row_sound, rows_sound}
use Rattle.eit.proofs.GivenLaws.{HasRoom, row_last, row_sound_lem, part_told, events_count, AreGiven, events_given_lem, given_good}
use Rattle.section.specs.declared.write.Given.{Given}
use Rattle.section.specs.Encoding.{Section, encode, encode_with}
use Rattle.section.specs.Writing.{header_given}
use Rattle.writing.specs.Written.{allowed, eit_bytes, eit_written}
use Rattle.refusal.proofs.OutcomeLaws.{went_on}
use Rattle.writing.proofs.EitLaws.{all_whole}
use Rattle.writing_laws.specs.RoundTrips.{EncodingOf, as_bytes, Inside, GivesEit, WritesEit}
use Rattle.writing_laws.proofs.TestLaws.{passes, fitted, fits, given, well_formed, header_passes, numbers_pass, largest_holds, as_given}

-- ---- events as bytes have the same bytes
same_events : (es : List EventFields) → encs (event_of any_bytes any_bytes).enc (map as_bytes es) ≡ encs event_format.enc es
same_events [] = refl
same_events (e ∷ es) = ap (event_format.enc e ++◌) (same_events es)

same_body : (es : List EventFields) → (eit_of any_bytes any_bytes).enc (record { events = map as_bytes es }) ≡ eit_format.enc (record { events = es })
same_body es = let n = length-map es as_bytes in let t = same_events es in λ i. bytes_of 1 (0 + n i) ++ t i

same_bytes : (g : Given) (count : ℕ) (rows bytes : List ℕ) (es : List EventFields) → map as_bytes es ≡ events_given rows bytes count 0
    → eit_bytes g count rows bytes ≡ encode (given Eit g (record { events = es }))
unfolding eit_bytes
same_bytes g count rows bytes es e =
    ap (encode_with Eit (header_given g)) (sym (ap (λ l. (eit_of any_bytes any_bytes).enc (record { events = l })) e) ∙ same_body es)

smallest : (es : List EventFields) → 1 ≤ length (eit_format.enc (record { events = es }))
smallest es = omega (arith, length-append (bytes_of 1 (0 + length es)) (encs event_format.enc es), bytes_length 1 (0 + length es))

-- ---- rows that pass the tests give events
module _ (rows bytes : List ℕ) where
  given_as : (a : ℕ) (es : List EventFields) → AreGiven rows bytes a es → map as_bytes es ≡ events_given rows bytes (length es) a
  unfolding events_given event_given
  given_as a [] v = refl
  given_as a (e ∷ es) v =
      let x = v.0 in
      let xs = given_as (a + 8) es v.1 in
      λ i. record { head = x.head i; title = x.title i; r = x.ones.1 i; descs = x.descs i } ∷ xs i

  rows_inside : (n a : ℕ) → rows_sound rows bytes n a ≡ true → (i : ℕ) → i < n → Inside rows bytes (a + 8 * i)
  unfolding rows_sound
  rows_inside zero a e i h = absurd (omega arith)
  rows_inside (suc n) a e zero h =
      let s = row_sound_lem rows bytes a (and_left _ _ e) in
      subst (Inside rows bytes) (omega arith) (s.0.0, s.1.0)
  rows_inside (suc n) a e (suc i) h =
      subst (Inside rows bytes) (omega arith) (rows_inside n (a + 8) (and_right _ _ e) i (omega arith))

module _ (g : Given) (count : ℕ) (rows bytes : List ℕ) (room : ℕ) (z : Bytes bytes) (s : List ℕ) where
  written : eit_written g count rows bytes room ≡ resulted s → EncodingOf (GivesEit g count rows bytes) s × (length s ≤ room)
  unfolding eit_written
  written e =
      let a = went_on 23 _ _ s e in
      let b = went_on 8 _ _ s a.1 in
      let c = went_on 9 _ _ s b.1 in
      let d = fitted Eit room (eit_bytes g count rows bytes) s c.1 in
      let whole = eqb-true _ _ (and_left _ _ c.0) in
      let sound = and_right _ _ c.0 in
      let rest = and_right _ _ a.0 in
      let small = ltb-true count 256 (and_left _ _ rest) in
      let fit = subst (λ n. rows_fit rows n 0 ≡ true) (all_whole count rows whole) (and_right _ _ rest) in
      let u = events_given_lem rows bytes z count 0 fit sound in
      let es = u.0 in
      let events = subst (λ n. map as_bytes es ≡ events_given rows bytes n 0) u.1.1 (given_as rows bytes 0 es u.1.0) in
      let same = same_bytes g count rows bytes es events in
      let o = well_formed Eit g (record { events = es }) (and_left _ _ a.0) b.0 (omega (arith, smallest es))
      (omega (arith, ap length same))
      (record {}, (omega (arith, u.1.1), (refl, given_good rows bytes 0 es u.1.0))) in
      let v : GivesEit g count rows bytes (given Eit g (record { events = es })) = record {
        good = o;
        header = refl;
        whole = whole;
        inside = λ i h. subst (Inside rows bytes) (omega arith) (rows_inside rows bytes count 0 sound i h);
        events = events;
      } in
      ((given Eit g (record { events = es }), (v, d.0 ∙ same)), omega (arith, ap length d.0))

-- ---- rows of well-formed events pass the tests
part_passes : (f : Filling One) (bytes : List ℕ) (p : Part) (x : f.Val) → f.Formed (record {}) x → end_of p ≤ length bytes → f.enc x ≡ bytes_in bytes p
    → part_sound f bytes p ≡ true
part_passes f bytes p x o h e =
    let w = (own_bytes f (record {}) (f.enc x) ((f.law laws (record {})).bytes x o)).1 (x, (o, refl)) in
    sym (part_told f bytes p {t = f.enc x} {w = Ok w.0} {r = true} h e (sym w.1) refl)

-- what an event as bytes is where its row gives it
module _ (rows bytes : List ℕ) (a : ℕ) (e : EventFields) (q : as_bytes e ≡ event_given rows bytes a) where
  head_is : e.head ≡ head_given rows a
  unfolding event_given
  head_is = ap (λ (x : EventOf (List ℕ) (List ℕ)). x.head) q

  pub title_is : text.enc e.title ≡ bytes_in bytes (title_given rows a)
  unfolding event_given
  title_is = ap (λ (x : EventOf (List ℕ) (List ℕ)). x.title) q

  pub list_is : (descriptors content_advisory).enc e.descs ≡ bytes_in bytes (list_given rows a)
  unfolding event_given
  list_is = ap (λ (x : EventOf (List ℕ) (List ℕ)). x.descs) q

module _ (rows bytes : List ℕ) (a : ℕ) (e : EventFields) (o : event_format.Formed (record {}) e) (q : as_bytes e ≡ event_given rows bytes a)
    (h : Inside rows bytes a) where
  row_room : HasRoom rows a
  row_room =
      let f = subst (λ h. Fit event_head (head_of h)) (head_is rows bytes a e q) o.0 in
      let t = ap length (title_is rows bytes a e q) ∙ part_length bytes (title_given rows a).length (title_given rows a).start h.0 in
      let d = ap length (list_is rows bytes a e q) ∙ part_length bytes (list_given rows a).length (list_given rows a).start h.1 in
      record {
        id = f.1.0;
        start = f.1.1.0;
        etm = f.1.1.1.1.0;
        seconds = f.1.1.1.1.1.0;
        title = omega (arith, o.1.0.1.0);
        list = omega (arith, o.1.1.1.0);
      }

  row_fits_lem : row_fits rows a ≡ true
  row_fits_lem = sym (row_last rows a (list_given rows a).length refl (λ l. row_room)) ∙ lt-ltb _ _ row_room.list

  row_passes : row_sound rows bytes a ≡ true
  unfolding row_sound
  row_passes =
      and_i _ _ (part_passes text bytes (title_given rows a) e.title o.1.0.1.1.1 h.0 (title_is rows bytes a e q))
      (part_passes (descriptors content_advisory) bytes (list_given rows a) e.descs o.1.1.1.1.1 h.1 (list_is rows bytes a e q))

rows_pass : (rows bytes : List ℕ) (a : ℕ) (es : List EventFields) → All (event_format.Formed (record {})) es
    → map as_bytes es ≡ events_given rows bytes (length es) a → ((i : ℕ) → i < length es → Inside rows bytes (a + 8 * i))
    → (rows_fit rows (length es) a ≡ true) × (rows_sound rows bytes (length es) a ≡ true)
unfolding rows_fit rows_sound events_given
rows_pass rows bytes a [] o q h = (refl, refl)
rows_pass rows bytes a (e ∷ es) o q h =
    let x : as_bytes e ≡ event_given rows bytes a = cc in
    let xs : map as_bytes es ≡ events_given rows bytes (length es) (a + 8) = cc in
    let i : Inside rows bytes a = subst (Inside rows bytes) (omega arith) (h 0 (omega arith)) in
    let r = rows_pass rows bytes (a + 8) es o.1 xs (λ i l. subst (Inside rows bytes) (omega arith) (h (suc i) (omega arith))) in
    (and_i _ _ (row_fits_lem rows bytes a e o.0 x i) r.0, and_i _ _ (row_passes rows bytes a e o.0 x i) r.1)

-- as many events are given as are counted
pub events_are : (g : Given) (count : ℕ) (rows bytes : List ℕ) (y : Section Eit) → GivesEit g count rows bytes y
    → (length y.body.events ≡ count) × (map as_bytes y.body.events ≡ events_given rows bytes (length y.body.events) 0)
events_are g count rows bytes y v =
    let n = sym (length-map y.body.events as_bytes) ∙ ap length v.events ∙ events_count rows bytes count 0 in
    (n, subst (λ n. map as_bytes y.body.events ≡ events_given rows bytes n 0) (sym n) v.events)

writes : (g : Given) (count : ℕ) (rows bytes : List ℕ) (b : EitFields) (room : ℕ) → GivesEit g count rows bytes (given Eit g b)
    → length (encode (given Eit g b)) ≤ room → eit_written g count rows bytes room ≡ resulted (encode (given Eit g b))
unfolding eit_written
writes g count rows bytes b room v m =
    let o = v.good in
    let u = events_are g count rows bytes (given Eit g b) v in
    let n = u.0 in
    let r = rows_pass rows bytes 0 b.events o.body.1.1.1 u.1 (λ i l. subst (Inside rows bytes) (omega arith) (v.inside i (omega arith))) in
    let fit = subst (λ n. rows_fit rows n 0 ≡ true) (n ∙ sym (all_whole count rows v.whole)) r.0 in
    let sound = subst (λ n. rows_sound rows bytes n 0 ≡ true) n r.1 in
    let small : count < 256 = omega (arith, o.body.1.0) in
    passes 23 _ _ _ (and_i _ _ (header_passes Eit g b o) (and_i _ _ (lt-ltb _ _ small) fit))
    (passes 8 _ _ _ (numbers_pass Eit g b o)
    (passes 9 _ _ _ (and_i _ _ (eq-eqb _ _ v.whole) sound)
    (ap (allowed Eit room) (same_bytes g count rows bytes b.events v.events) ∙ fits Eit room _ (largest_holds Eit g b o) m)))

pub writes_eit : WritesEit eit_written
writes_eit g count rows bytes room z s = (
  written g count rows bytes room z s,
  (λ u.
      let y = u.0.0 in
      let v = u.0.1.0 in
      let same = as_given Eit g y v.header in
      let e = u.0.1.1 ∙ ap encode same in
      let n = ap length e in
      writes g count rows bytes y.body room (subst (GivesEit g count rows bytes) same v) (omega arith) ∙ ap resulted (sym e)),
)
