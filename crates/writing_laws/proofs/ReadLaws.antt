-- An EIT that is written reads as given.
use Prim.Native.Nat.{ℕ, zero, suc, ◌+◌, ◌*◌, ◌<◌}
use mathlib.Core.Path.{◌≡◌, refl, sym, ap, ◌∙◌, subst}
use mathlib.Core.List.{List, [], ◌∷◌, map}
use native.Mathlib.Omega.{arith}
use lib.ListN.{length}
use Rattle.refusal.specs.Outcomes.{Outcome, refused, resulted}
use Rattle.kind.specs.declared.Kind.TheVariants.{Eit}
use Rattle.kind.specs.Kinds.{only_of}
use Rattle.format.specs.Lawful.{Lies}
use Rattle.format.specs.Listed.{nth_of}
use Rattle.format.proofs.ListedLaws.{Stand, first_lies, rest_stand}
use Rattle.eit.specs.declared.event.Event.{Event as EventAnswer}
use Rattle.eit.specs.Format.{EventFields, event_format}
use Rattle.eit.specs.Given.{event_given, events_given}
use Rattle.eit.specs.Values.{event_for}
use Rattle.eit.proofs.ThereLaws.{title_lies, descriptors_lie}
use Rattle.section.specs.Sections.{section_by}
use Rattle.section.specs.Encoding.{Section, encode, WellFormed}
use Rattle.section.proofs.EncodingLaws.{encode_bytes, accepts}
use Rattle.entry.specs.declared.Entry.TheVariants.{Event}
use Rattle.entry.proofs.RecordLaws.{entries_stand}
use Rattle.reading.specs.Eits.{fields_of}
use Rattle.section_laws.specs.Told.{event_told}
use Rattle.section_laws.proofs.TableLaws.{eit_reads_lem, event_reads}
use Rattle.writing_laws.specs.RoundTrips.{as_bytes, EitWriter, WritesEit, ReadsAsRow, ReadsBackEit}
use Rattle.writing_laws.proofs.TestLaws.{header_read_lem}
use Rattle.writing_laws.proofs.EitLaws.{events_are, title_is, list_is}

-- the event of the row that begins at number p lies in s, and is what is told
record Stands (rows bytes s : List ℕ) (p : ℕ) (told : Outcome EventAnswer) : Type 0 where
  event : EventFields
  at : ℕ
  given : as_bytes event ≡ event_given rows bytes p
  good : event_format.Formed (record {}) event
  lies : Lies (event_format.enc event) s at
  answer : told ≡ resulted (event_for at event)

-- what is told of event i, where the first lies at a
abbrev told_of : ℕ → List EventFields → ℕ → Outcome EventAnswer
told_of a es i = nth_of event_format.enc (λ a e. resulted (event_for a e)) (refused 13) a es i

-- of events that lie one after the other, number i is that of row i
row_stands : (rows bytes s : List ℕ) (end a p : ℕ) (es : List EventFields) → Stand event_format s end a es
    → map as_bytes es ≡ events_given rows bytes (length es) p → (i : ℕ) → i < length es
    → Stands rows bytes s (p + 8 * i) (told_of a es i)
unfolding events_given nth_of
row_stands rows bytes s end a p [] g q i h = absurd (omega arith)
row_stands rows bytes s end a p (e ∷ es) g q zero h =
    let x : as_bytes e ≡ event_given rows bytes p = cc in
    subst (λ p. Stands rows bytes s p (resulted (event_for a e))) (omega arith)
    (record { event = e; at = a; given = x; good = g.good.0; lies = first_lies event_format s end a e es g; answer = refl })
row_stands rows bytes s end a p (e ∷ es) g q (suc i) h =
    let xs : map as_bytes es ≡ events_given rows bytes (length es) (p + 8) = cc in
    let b = a + length (event_format.enc e) in
    subst (λ p. Stands rows bytes s p (told_of b es i)) (omega arith)
    (row_stands rows bytes s end b (p + 8) es (rest_stand event_format s end a e es g) xs i (omega arith))

-- so it is read as that row gives it
row_read : (rows bytes : List ℕ) (y : Section Eit) → WellFormed Eit y → (i : ℕ) → Stands rows bytes (encode y) (0 + 8 * i) (event_told i y)
    → ReadsAsRow rows bytes (encode y) i
row_read rows bytes y o i x =
    let q : as_bytes x.event ≡ event_given rows bytes (8 * i) = subst (λ p. as_bytes x.event ≡ event_given rows bytes p) (omega arith) x.given in
    let z = encode_bytes Eit y o in
    record {
      event = x.event;
      at = x.at;
      good = x.good;
      given = q;
      answer = (event_reads i).tells y o ∙ x.answer;
      title = (title_lies (encode y) z x.at x.event x.good x.lies).1 ∙ title_is rows bytes (8 * i) x.event q;
      list = (descriptors_lie (encode y) z x.at x.event x.good x.lies).1 ∙ list_is rows bytes (8 * i) x.event q;
    }

module _ (write : EitWriter) (w : WritesEit write) where
  pub reads_back_eit : ReadsBackEit write
  reads_back_eit g count rows bytes room z s e =
      let u = ((w g count rows bytes room z s).0 e).0 in
      let y = u.0 in
      let v = u.1.0 in
      let h = v.header in
      let n = events_are g count rows bytes y v in
      record {
        header = ap (section_by (only_of Eit)) u.1.1 ∙ accepts Eit y v.good ∙ ap resulted (header_read_lem Eit g y h);
        fields = ap fields_of u.1.1 ∙ eit_reads_lem.tells y v.good ∙ (λ i. resulted (record { source = (h i).extension; count = n.0 i }));
        events = λ i l.
            let x = row_stands rows bytes (encode y) _ _ 0 y.body.events (entries_stand Event y v.good) n.1 i (omega (arith, n.0)) in
            subst (λ s. ReadsAsRow rows bytes s i) (sym u.1.1) (row_read rows bytes y v.good i x);
      }
