-- An EIT that is written: its length, its tests, and what they have shown.
use Prim.Native.Nat.{ℕ, ◌+◌, ◌*◌, ◌/◌, ◌<◌, ◌≤◌, min}
use mathlib.Core.Path.{◌≡◌, refl, sym, ap, ◌∙◌}
use mathlib.Core.Bool.{Bool, true, false, not}
use mathlib.Core.List.{List}
use native.Mathlib.Omega.{arith}
use lib.Dec.{eqb, ltb}
use lib.ListN.{length, length-append}
use borrow.Author.Tests.{le-ltb, ltb-true, ltb-false, eqb-true, not-false}
use Rattle.std.proofs.Math.Nat.{min-eq_left, min-eq_right}
use Rattle.logic.specs.Choices.{pick}
use Rattle.logic.specs.Loops.{◌&◌}
use Rattle.logic.proofs.LoopLaws.{and_left, and_right}
use Rattle.refusal.specs.Outcomes.{resulted}
use Rattle.refusal.specs.Outputs.{counted}
use Rattle.refusal.proofs.OutputLaws.{from_number}
use Rattle.kind.specs.declared.Kind.TheVariants.{Eit}
use Rattle.format.specs.Repeats.{encs}
use Rattle.format.specs.Formats.{any_bytes}
use Rattle.format.specs.Laws.OfValues.{bytes_length}
use Rattle.format.specs.Values.{bytes_of}
use Rattle.eit.specs.Format.{event_of, eit_of}
use Rattle.eit.specs.Given.{events_given, rows_fit, rows_sound}
use Rattle.eit.specs.Inner.{size_given, RowsGiven}
use Rattle.eit.proofs.GivenLaws.{events_length}
use Rattle.section.specs.declared.write.Given.{Given}
use Rattle.section.specs.Writing.{header_given, header_fits}
use Rattle.section.proofs.EncodingLaws.{encoded_size}
use Rattle.writing.specs.Written.{eit_bytes, whole_rows, eit_written}
use Rattle.writing.specs.Inner.{EitFits}
use Rattle.refusal.proofs.OutcomeLaws.{went_on}
use Rattle.writing.proofs.TestLaws.{has_room}

-- where there are as many rows as are counted, all are whole
pub all_whole : (count : ℕ) (rows : List ℕ) → length rows ≡ 8 * count → whole_rows count rows ≡ count
unfolding whole_rows
all_whole count rows e = rw (le-ltb (length rows / 8) count (omega arith))

module _ (g : Given) (count : ℕ) (rows bytes : List ℕ) where
  -- 23 has passed: the count has room
  pub few_rows : {t : Bool} → t ≡ (header_fits g & ltb count 256 & rows_fit rows (whole_rows count rows) 0) → not t ≡ false → count < 256
  few_rows {t} a e = ltb-true count 256 (and_left _ _ (and_right _ _ (sym a ∙ not-false t e)))

  -- so has 9: as many rows were judged
  pub rows_passed : {t u : Bool} → t ≡ (header_fits g & ltb count 256 & rows_fit rows (whole_rows count rows) 0) → not t ≡ false
      → u ≡ (eqb (length rows) (8 * count) & rows_sound rows bytes count 0) → not u ≡ false → RowsGiven rows bytes count 0 × (count ≤ 255)
  rows_passed {u = u} a e b f =
      let c = few_rows a e in
      let s = sym b ∙ not-false u f in
      let l = eqb-true (length rows) (8 * count) (and_left _ _ s) in
      let r = and_right _ _ (and_right _ _ (sym a ∙ not-false _ e)) in
      (record { inside = omega arith; fits = rw (all_whole count rows l) at r; sound = and_right _ _ s }, omega arith)

  pub body_length : rows_sound rows bytes count 0 ≡ true
      → length ((eit_of any_bytes any_bytes).enc (record { events = events_given rows bytes count 0 })) ≡ size_given rows count 0 + 1
  body_length s =
      let n = 0 + length (events_given rows bytes count 0) in
      let l = length-append (bytes_of 1 n) (encs (event_of any_bytes any_bytes).enc (events_given rows bytes count 0)) in
      omega (arith, l, bytes_length 1 n, events_length rows bytes count 0 s)

  pub eit_length : rows_sound rows bytes count 0 ≡ true → length (eit_bytes g count rows bytes) ≡ size_given rows count 0 + 14
  unfolding eit_bytes
  eit_length s =
      let z = encoded_size Eit (header_given g) ((eit_of any_bytes any_bytes).enc (record { events = events_given rows bytes count 0 })) in
      omega (arith, z, body_length s)

  -- a length was answered: the tests have passed, and the section is the result
  pub eit_passed : (room n : ℕ) → resulted n ≡ counted (eit_written g count rows bytes room)
      → EitFits g count rows bytes n room × (eit_written g count rows bytes room ≡ resulted (eit_bytes g count rows bytes))
  unfolding eit_written eit_bytes
  eit_passed room n e =
      let x = from_number _ n e in
      let a = went_on 23 _ _ x.0 x.1.0 in
      let b = went_on 8 _ _ x.0 a.1 in
      let c = went_on 9 _ _ x.0 b.1 in
      let r = rows_passed refl (ap not a.0) refl (ap not c.0) in
      let body = (eit_of any_bytes any_bytes).enc (record { events = events_given rows bytes count 0 }) in
      let l = body_length r.0.sound in
      let f = has_room Eit g body (size_given rows count 0 + 1) room (omega arith) l x.0 (and_left _ _ a.0) c.1 in (
        record {
          fits = f.0;
          whole = x.1.1 ∙ ap length (sym f.1) ∙ eit_length r.0.sound;
          given = r.0;
          few = r.1;
        },
        x.1.0 ∙ ap resulted (sym f.1),
      )

-- the rows that are there, or those that are counted: the lesser
pub lesser : (there count : ℕ) (t : Bool) → ltb there count ≡ t → min count there ≡ pick t there count
lesser there count true e = min-eq_right (omega (arith, ltb-true there count e))
lesser there count false e = min-eq_left (ltb-false there count e)
